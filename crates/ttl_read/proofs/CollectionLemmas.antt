-- Collections and property lists: members in turn, until a `)`.
use Rattle.std.proofs.Common.{◌≡◌, ℕ, Bool, true, false, not, ◌&&◌, ◌||◌, List, refl, ap, None}
use Rattle.std.specs.Str.{IsUtf8}
use Rattle.std.proofs.lemmas.Bool.{and_left, not-true, or_from, or_left, or_right}
use Rattle.shx_term.specs.Pool.{Pooled}
use Rattle.ttl_tokens.specs.declared.token.Token.{Token}
use Rattle.ttl_tokens.specs.declared.token.TokenKind.{TokenKind}
use Rattle.ttl_tokens.specs.declared.token.TokenKind.TheVariants.{End, CloseSquare, CloseRound}
use Rattle.ttl_tokens.specs.Form.{Then, Many}
use Rattle.ttl_meaning.specs.Items.{first_cell, next_cell, end_list, close_node}
use Rattle.ttl_meaning.specs.State.{State}
use Rattle.ttl_read.specs.declared.reader.Reader.{Reader}
use Rattle.ttl_read.specs.inner.Follows.{Avoids, takes_no_token, may_begin}
use Rattle.ttl_read.specs.Grammar.{Rule, member, members, sign, do_, is_kind}
use Rattle.ttl_read.specs.inner.Reads.{Stands, Reads, Refuses, Passes, next_if}
use Rattle.ttl_read.specs.inner.Stops.{goes_on, stops_nowhere, predicates_go_on}
use Rattle.ttl_read.proofs.HereLemmas.{IsHere, here_refuses, no_follower_unless}
use Rattle.ttl_read.proofs.KindLemmas.{IsObject, at_kind, apart}
use Rattle.ttl_read.proofs.PassLemmas.{passes_reads}
use Rattle.ttl_read.proofs.ReadLemmas.{NoFollower, Goes, goes_to_end, goes_wrong, then_reads, then_refuses}
use Rattle.ttl_read.proofs.ReadLemmas.{regroup_reads, regroup_refuses}

-- anything but a `)` goes on with members
abbrev pub goes_without_close : Token → Bool
goes_without_close t = not (is_kind CloseRound t.kind)

-- a member behind another
abbrev pub next_member : Rule → Rule
next_member o = member next_cell o

-- members so far
abbrev pub first_members : Rule → Rule
first_members o = Then (member first_cell o) (Many (next_member o))

-- ---- one token ahead decides

-- what is done between tokens begins with nothing of its own
pub do_avoids : (act : State → State) (stop : Token → Bool) (h : Rule) → Avoids stop h
    → Avoids stop (Then (do_ act) h)
do_avoids act stop h free = record { some = free.some; other = free.other }

-- what goes on with a string is no `)`
tags_no_close : (k : TokenKind) → goes_on (at_kind k) && is_kind CloseRound k ≡ false
tags_no_close End = refl
tags_no_close k = refl

-- a member begins as its object does, and takes a token
member_begins : (cell : State → State) (o : Rule) → IsObject o → (t : Token) → may_begin o t ≡ false
    → may_begin (member cell o) t ≡ false
member_begins cell o is t e = or_from _ _ e (and_left _ _ is.some)

member_some : (cell : State → State) (o : Rule) → IsObject o → takes_no_token (member cell o) ≡ false
member_some cell o is = and_left _ _ is.some

-- behind a member stands another, or a `)`
pub members_avoid : (o : Rule) → IsObject o → (h : Rule) → Avoids goes_without_close h
    → Avoids goes_on (Then (Many (next_member o)) h)
members_avoid o is h free = record {
  some = free.some;
  other = λ t e.
      or_from _ _ (member_begins next_cell o is t (is.other t (or_left _ _ e)))
      (free.other t (ap not (apart _ _ (tags_no_close t.kind) e)));
}

close_only : (a : Bool) → not a ≡ true → a || false ≡ false
close_only a e = or_from _ _ (not-true a e) refl

-- ... and behind all of them a `)`
pub close_avoids : (h : Rule) → Avoids stops_nowhere h
    → Avoids goes_without_close (Then (sign CloseRound end_list) h)
close_avoids h free = record { some = refl; other = λ t e. close_only (is_kind CloseRound t.kind) e }

-- no `)` is here, so nothing that may follow members
pub no_close : (text : List ℕ) (r : Reader) → IsUtf8 text → Stands text r.tokens
    → next_if (is_kind CloseRound) r.tokens.next ≡ None → NoFollower text goes_without_close r
no_close text r utf8 stands none =
    no_follower_unless text (is_kind CloseRound) goes_without_close r utf8 stands (λ t e. ap not e) none

-- no member begins with a `)`
pub no_next_member : {text : List ℕ} {r : Reader} {t : Token} (o : Rule) (p : Pooled) (stop : Token → Bool)
    → IsObject o → IsHere text r t → is_kind CloseRound t.kind ≡ true → Refuses text (next_member o) stop r p
no_next_member {t = t} o p stop is here close =
    here_refuses (next_member o) p stop here (member_some next_cell o is)
    (member_begins next_cell o is t (is.other t (or_right _ _ close)))

-- ... nor do all of them
pub no_members : {text : List ℕ} {r : Reader} {t : Token} (o : Rule) (p : Pooled) (stop : Token → Bool)
    → IsObject o → IsHere text r t → is_kind CloseRound t.kind ≡ true → Refuses text (members o) stop r p
no_members {t = t} o p stop is here close =
    here_refuses (members o) p stop here (and_left _ _ (member_some first_cell o is))
    (or_from _ _ (member_begins first_cell o is t (is.other t (or_right _ _ close)))
    (and_left _ _ (member_some first_cell o is)))

-- ---- members

-- the `)` behind the last of them
pub members_read : {text : List ℕ} {o : Rule} {r m r' : Reader} {p q p' : Pooled} → IsObject o
    → Goes text (first_members o) (next_member o) goes_without_close r p m q
    → Refuses text (next_member o) goes_on m q → Passes text (sign CloseRound end_list) m q r' p'
    → Reads text (members o) stops_nowhere r p r' p'
members_read {o = o} is goes none close =
    regroup_reads (then_reads close_avoids (goes_to_end (members_avoid o is) goes none) (passes_reads close))

-- the first is none
pub no_first_member : {text : List ℕ} {o : Rule} {r : Reader} {p : Pooled} → IsObject o
    → Refuses text (member first_cell o) goes_on r p → Refuses text (members o) stops_nowhere r p
no_first_member {o = o} is none =
    regroup_refuses (then_refuses close_avoids (then_refuses (members_avoid o is) none))

-- another is none, and no `)` is here
pub no_other_member : {text : List ℕ} {o : Rule} {r m : Reader} {p q : Pooled} → IsObject o
    → NoFollower text goes_without_close m
    → Goes text (first_members o) (next_member o) goes_without_close r p m q
    → Refuses text (next_member o) goes_on m q → Refuses text (members o) stops_nowhere r p
no_other_member {o = o} is stop goes none =
    regroup_refuses (then_refuses close_avoids (goes_wrong (members_avoid o is) stop goes none))

-- ---- property lists

close_square_other : (k : TokenKind)
    → predicates_go_on (at_kind k) && may_begin (sign CloseSquare close_node) (at_kind k) ≡ false
close_square_other End = refl
close_square_other k = refl

-- behind predicates and objects stands a `]`
pub square_avoids : Avoids predicates_go_on (sign CloseSquare close_node)
square_avoids = record { some = refl; other = λ t e. apart _ _ (close_square_other t.kind) e }
