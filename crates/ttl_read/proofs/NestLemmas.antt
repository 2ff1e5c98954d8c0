-- The brackets of a statement beside its derivations: where no bracket is one too many, a derivation nests
-- within the limit; and where it does, no bracket is.
use Rattle.std.proofs.Common.{◌≡◌, ℕ, ◌+◌, ◌<◌, ◌≤◌, zero, suc, Bool, true, false, ◌&&◌, ◌||◌, List, [], ◌∷◌}
use Rattle.std.proofs.Common.{Some, ◌⊎◌, inl, inr, refl, sym, ◌∙◌, subst, codes, nat_eq, arith, true≢false}
use Rattle.std.specs.Prelude.{nat_le}
use Rattle.std.specs.Cmp.Lexicographic.{pointwise}
use Rattle.std.specs.Str.{IsUtf8}
use Rattle.std.proofs.lemmas.Bool.{and_parts, false_from_ne_true, le-leb, or_parts, or_right}
use Rattle.std.proofs.lemmas.Bool.Decides.{nat_tests}
use Rattle.ttl_tokens.specs.declared.token.Token.{Token}
use Rattle.ttl_tokens.specs.declared.token.TokenKind.{TokenKind}
use Rattle.ttl_tokens.specs.declared.token.TokenKind.TheVariants.{End, Dot, Comma, Semicolon, OpenSquare}
use Rattle.ttl_tokens.specs.declared.token.TokenKind.TheVariants.{CloseSquare, OpenRound, CloseRound, LangTag}
use Rattle.ttl_tokens.specs.declared.token.TokenKind.TheVariants.{PnameNs, IriRef, WordPrefix, WordBase}
use Rattle.ttl_tokens.specs.Form.{Empty, Item, Then, Or, Maybe, Many, Takes}
use Rattle.ttl_tokens.specs.Tokens.{IsTokenAt}
use Rattle.ttl_tokens.specs.Unescaped.{token_text}
use Rattle.ttl_meaning.specs.State.{State}
use Rattle.ttl_meaning.specs.Items.{first_cell, next_cell, open_node}
use Rattle.ttl_read.specs.Depth.{IsOneTooMany, NoneTooMany, IsNotTooDeep, IsRun, first_too_many, is_open}
use Rattle.ttl_read.specs.Depth.{is_close, is_dot_or_end, is_prefix_or_base, open_behind}
use Rattle.ttl_read.specs.Grammar.{Place, Rule, One, Do, StepsTo, is_kind, token, sign, mark, do_, verb, node}
use Rattle.ttl_read.specs.Grammar.{plain_object, object_list, verb_objects, predicate_object_list, member}
use Rattle.ttl_read.specs.Grammar.{property_list, collection, object, subject, subject_triples, node_triples}
use Rattle.ttl_read.specs.Grammar.{triples, tag_word, prefix_binding, base_setting, directive, statement}
use Rattle.ttl_read.specs.inner.Follows.{may_take}
use Rattle.ttl_read.proofs.DepthLemmas.{none_at_end, none_behind, too_many_here, too_many_behind, counted}
use Rattle.ttl_read.proofs.DepthLemmas.{not_counted, not_too_deep}
use Rattle.ttl_read.proofs.FitLemmas.{Fits, empty_fits, then_fits, or_fits, left_fits, lone_fits, maybe_fits}
use Rattle.ttl_read.proofs.FitLemmas.{many_fits}
use Rattle.ttl_read.proofs.KindLemmas.{apart, at_kind, kind_is}
use Rattle.ttl_read.proofs.StatementLemmas.{directive_or_triples, triples_and_dot}
use Rattle.ttl_read.proofs.StepLemmas.{never_here}
use Rattle.ttl_read.proofs.TriplesLemmas.{triples_take}

-- ---- tokens

-- brackets, and what ends a run
abbrev counts : TokenKind → Bool
counts k = is_dot_or_end k || (is_open k || is_close k)

-- a token of this kind has room where n brackets are open, and behind it m are
record Counts (limit n m : ℕ) (k : TokenKind) : Type 0 where
  goes : is_dot_or_end k ≡ false
  room : (is_open k && nat_le limit n) ≡ false
  behind : open_behind k n ≡ m

counts_none : (limit n : ℕ) (k : TokenKind) → counts k ≡ false → Counts limit n n k
counts_none limit n k none =
    let parts = or_parts (is_dot_or_end k) (is_open k || is_close k) none in
    let brackets = or_parts (is_open k) (is_close k) parts.1 in
    record { goes = parts.0; room = rw brackets.0 refl; behind = rw (brackets.0, brackets.1) refl }

opens : (limit n : ℕ) (k : TokenKind) → is_dot_or_end k ≡ false → is_open k ≡ true → n < limit
    → Counts limit n (n + 1) k
opens limit n k goes is less =
    let room : nat_le limit n ≡ false = grind (arith, nat_tests, less) in
    record { goes = goes; room = rw (is, room) refl; behind = rw is refl }

closes : (limit n : ℕ) (k : TokenKind) → is_dot_or_end k ≡ false → is_open k ≡ false → is_close k ≡ true
    → Counts limit (n + 1) n k
closes limit n k goes other is =
    record { goes = goes; room = rw other refl; behind = rw (other, is) (omega arith) }

-- ---- forms whose tokens count nothing

-- whether an item of a form takes this token
abbrev has_item : Rule → Token → Bool
has_item Empty t = false
has_item (Item i) t = may_take i t
has_item (Then f g) t = has_item f t || has_item g t
has_item (Or f g) t = has_item f t || has_item g t
has_item (Maybe f) t = has_item f t
has_item (Many f) t = has_item f t

abbrev CountsNone : Rule → Type 0
CountsNone f = (t : Token) → counts t.kind ≡ true → has_item f t ≡ false

verb_counts : (text : List ℕ) (k : TokenKind) → counts k && has_item (verb text) (at_kind k) ≡ false
verb_counts text End = refl
verb_counts text k = refl

node_counts : (text : List ℕ) (k : TokenKind) → counts k && has_item (node text) (at_kind k) ≡ false
node_counts text End = refl
node_counts text k = refl

object_counts : (text : List ℕ) (k : TokenKind)
    → counts k && has_item (plain_object text) (at_kind k) ≡ false
object_counts text End = refl
object_counts text k = refl

module _ (text : List ℕ) (limit : ℕ) (utf8 : IsUtf8 text) where
  -- where so many are open, no bracket is one too many
  abbrev Few : ℕ → Place → Type 0
  Few n x = NoneTooMany text limit x.at n

  abbrev Nests : ℕ → ℕ → Rule → Rule → Type 0
  Nests n m f g = Fits text (Few n) (Few m) f g

  -- ---- items

  item_nests : (n m : ℕ) (test : Token → Bool) (act : Token → State → State)
      → ((t : Token) → test t ≡ true → Counts limit n m t.kind)
      → Nests n m (Item (One test act)) (Item (One test act))
  item_nests n m test act known = record {
    within = λ x y few t. t;
    on = λ x y t few.
        let is = known t.0 t.2 in
        subst (Few m) t.3 (λ place one.
        few place (too_many_behind text limit x.at n place t.0 t.1 is.goes is.room
        (subst (λ (k : ℕ). IsOneTooMany text limit t.0.end k place) (sym is.behind) one)));
    back = λ x y t few.
        let is = known t.0 t.2 in
        none_behind text limit x.at n t.0 utf8 t.1 is.room
        (subst (NoneTooMany text limit t.0.end) (sym is.behind) (subst (Few m) (sym t.3) few));
  }

  token_nests : {n m : ℕ} {kind : TokenKind} {act : Token → State → State} → Counts limit n m kind
      → Nests n m (token kind act) (token kind act)
  token_nests {n} {m} {kind} {act} known =
      item_nests n m (λ t. is_kind kind t.kind) act
      (λ t is. subst (Counts limit n m) (sym (kind_is kind t.kind is)) known)

  done_nests : {n : ℕ} {act : State → State} → Nests n n (do_ act) (do_ act)
  done_nests {n} = record {
    within = λ x y few t. t;
    on = λ x y t few. subst (Few n) t few;
    back = λ x y t few. subst (Few n) (sym t) few;
  }

  plain_nests : (n : ℕ) (f : Rule) → CountsNone f → Nests n n f f
  plain_nests n Empty none = empty_fits
  plain_nests n (Item (One test act)) none =
      item_nests n n test act
      (λ t holds.
      counts_none limit n t.kind (false_from_ne_true _ (λ e. true≢false (sym holds ∙ none t e))))
  plain_nests n (Item (Do act)) none = done_nests
  plain_nests n (Then f g) none =
      then_fits (plain_nests n f (λ t e. (or_parts _ _ (none t e)).0))
      (plain_nests n g (λ t e. (or_parts _ _ (none t e)).1))
  plain_nests n (Or f g) none =
      or_fits (plain_nests n f (λ t e. (or_parts _ _ (none t e)).0))
      (plain_nests n g (λ t e. (or_parts _ _ (none t e)).1))
  plain_nests n (Maybe f) none = maybe_fits (plain_nests n f none)
  plain_nests n (Many f) none = many_fits (plain_nests n f none)

  -- at the dot brackets are counted no further
  dot_ends : Fits text (Few 0) (λ y. Unit) (mark Dot) (mark Dot)
  dot_ends = record {
    within = λ x y few t. t;
    on = λ x y t few. tt;
    back = λ x y t u. none_at_end text limit x.at 0 t.0 utf8 t.1 (rw (kind_is Dot t.0.kind t.2) refl);
  }

  -- where as many are open as may be, none opens
  full : (n : ℕ) (kind : TokenKind) (act : State → State) → is_dot_or_end kind ≡ false → is_open kind ≡ true
      → limit ≤ n → (x y : Place) → Few n x → Takes (StepsTo text) (sign kind act) x y → ⊥
  full n kind act goes opens most x y few t =
      let same = kind_is kind t.0.kind t.2 in
      few t.0.start (too_many_here text limit x.at n t.0 t.1 (rw same goes) (rw same opens)
      (le-leb limit n most))

  -- ---- productions of objects; `o` and `p` are the forms of one

  object_list_nests : (n : ℕ) (o p : Rule) → Nests n n o p → Nests n n (object_list o) (object_list p)
  object_list_nests n o p a =
      then_fits a (many_fits (then_fits (token_nests (counts_none limit n Comma refl)) a))

  verb_objects_nest : (n : ℕ) (o p : Rule) → Nests n n o p
      → Nests n n (verb_objects text o) (verb_objects text p)
  verb_objects_nest n o p a =
      then_fits (plain_nests n (verb text) (λ t e. apart _ _ (verb_counts text t.kind) e))
      (object_list_nests n o p a)

  predicates_nest : (n : ℕ) (o p : Rule) → Nests n n o p
      → Nests n n (predicate_object_list text o) (predicate_object_list text p)
  predicates_nest n o p a =
      then_fits (verb_objects_nest n o p a)
      (many_fits (then_fits (token_nests (counts_none limit n Semicolon refl))
      (maybe_fits (verb_objects_nest n o p a))))

  property_list_nests : (n : ℕ) (o p : Rule) → n < limit → Nests (n + 1) (n + 1) o p
      → Nests n n (property_list text o) (property_list text p)
  property_list_nests n o p room a =
      then_fits (token_nests (opens limit n OpenSquare refl refl room))
      (then_fits (predicates_nest (n + 1) o p a) (token_nests (closes limit n CloseSquare refl refl refl)))

  member_nests : (n : ℕ) (cell : State → State) (o p : Rule) → Nests n n o p
      → Nests n n (member cell o) (member cell p)
  member_nests n cell o p a = then_fits done_nests (then_fits a done_nests)

  collection_nests : (n : ℕ) (o p : Rule) → n < limit → Nests (n + 1) (n + 1) o p
      → Nests n n (collection o) (collection p)
  collection_nests n o p room a =
      let close = closes limit n CloseRound refl refl refl in
      then_fits (token_nests (opens limit n OpenRound refl refl room))
      (or_fits (token_nests close)
      (then_fits (member_nests (n + 1) first_cell o p a)
      (then_fits (many_fits (member_nests (n + 1) next_cell o p a)) (token_nests close))))

  -- ---- objects, however deep

  plain_object_nests : (n : ℕ) → Nests n n (plain_object text) (plain_object text)
  plain_object_nests n = plain_nests n (plain_object text) (λ t e. apart _ _ (object_counts text t.kind) e)

  abbrev bracketed : Rule → Rule
  bracketed o = Or (collection o) (property_list text o)

  bracketed_nests : (n : ℕ) (o p : Rule) → n < limit → Nests (n + 1) (n + 1) o p
      → Nests n n (bracketed o) (bracketed p)
  bracketed_nests n o p room a = or_fits (collection_nests n o p room a) (property_list_nests n o p room a)

  no_bracket : (n : ℕ) (o : Rule) → limit ≤ n → (x y : Place) → Few n x
      → Takes (StepsTo text) (bracketed o) x y → ⊥
  no_bracket n o most x y few (inl t) = full n OpenRound (λ s. s) refl refl most x t.0 few t.1
  no_bracket n o most x y few (inr t) = full n OpenSquare open_node refl refl most x t.0 few t.1

  object_nests : (k m n : ℕ) → n + m ≡ limit → Nests n n (object text k) (object text m)
  unfolding object
  object_nests zero zero n e = plain_object_nests n
  object_nests zero (suc m) n e =
      left_fits (plain_object_nests n)
      (bracketed_nests n _ _ (omega (arith, e)) (object_nests m m (n + 1) (omega (arith, e))))
  object_nests (suc k) zero n e =
      lone_fits (plain_object_nests n) (no_bracket n (object text k) (omega (arith, e)))
  object_nests (suc k) (suc m) n e =
      or_fits (plain_object_nests n)
      (bracketed_nests n _ _ (omega (arith, e)) (object_nests k m (n + 1) (omega (arith, e))))

  -- ---- triples, where no bracket is open

  node_nests : Nests 0 0 (node text) (node text)
  node_nests = plain_nests 0 (node text) (λ t e. apart _ _ (node_counts text t.kind) e)

  subject_nests : (k m : ℕ) → m ≡ limit → Nests 0 0 (subject text k) (subject text m)
  subject_nests zero zero e = node_nests
  subject_nests zero (suc m) e =
      left_fits node_nests
      (collection_nests 0 _ _ (omega (arith, e)) (object_nests m m 1 (omega (arith, e))))
  subject_nests (suc k) zero e =
      lone_fits node_nests (λ x y few t. full 0 OpenRound (λ s. s) refl refl (omega (arith, e)) x t.0 few t.1)
  subject_nests (suc k) (suc m) e =
      or_fits node_nests
      (collection_nests 0 _ _ (omega (arith, e)) (object_nests k m 1 (omega (arith, e))))

  subject_triples_nest : (k m : ℕ) → m ≡ limit → Nests 0 0 (subject_triples text k) (subject_triples text m)
  subject_triples_nest k m e =
      then_fits (subject_nests k m e) (predicates_nest 0 _ _ (object_nests k m 0 (omega (arith, e))))

  node_triples_nest : (k m : ℕ) → suc m ≡ limit → Nests 0 0 (node_triples text k) (node_triples text m)
  node_triples_nest k m e =
      then_fits (property_list_nests 0 _ _ (omega (arith, e)) (object_nests k m 1 (omega (arith, e))))
      (maybe_fits (predicates_nest 0 _ _ (object_nests (suc k) (suc m) 0 (omega (arith, e)))))

  triples_nest : (k m : ℕ) → m ≡ limit → Nests 0 0 (triples text k) (triples text m)
  triples_nest zero zero e = subject_triples_nest zero zero e
  triples_nest zero (suc m) e = left_fits (subject_triples_nest zero (suc m) e) (node_triples_nest m m e)
  triples_nest (suc k) zero e =
      lone_fits (subject_triples_nest (suc k) zero e)
      (λ x y few t. full 0 OpenSquare open_node refl refl (omega (arith, e)) x t.1.0 few t.1.1)
  triples_nest (suc k) (suc m) e =
      or_fits (subject_triples_nest (suc k) (suc m) e) (node_triples_nest k m e)

  dotted_nest : (k : ℕ) → Fits text (Few 0) (λ y. Unit) (triples_and_dot text k) (triples_and_dot text limit)
  dotted_nest k = then_fits (triples_nest k limit refl) dot_ends

  -- ---- statements

  -- triples begin with a token from which on brackets are counted
  triples_counted : (k : ℕ) (x y : Place) → Takes (StepsTo text) (triples_and_dot text k) x y
      → IsNotTooDeep text limit x.at → Few 0 x
  triples_counted k x y t shallow place one = go one.tokens one.run one.first
    where
      begins : (u : Token) → IsTokenAt text x.at u → (b : Bool) → is_prefix_or_base u.kind ≡ b → b ≡ false
      begins u here false e = refl
      begins u here true e =
          let other = apart _ _ (directive_or_triples text k u.start u.end u.kind) (or_right _ _ e) in
          absurd ((never_here text (triples text k) x u utf8 (triples_take text k) other here).none t.0 t.1)

      go : (us : List Token) → IsRun text x.at us → first_too_many limit 0 us ≡ Some place → ⊥
      go [] run e = absurd (cc)
      go (u ∷ us) run e =
          shallow place (counted text limit x.at place u utf8 run.0 (begins u run.0 _ refl) one)

  -- a statement none of whose brackets is one too many has a derivation within the limit
  pub derived_within : (k : ℕ) (x y : Place) → IsNotTooDeep text limit x.at
      → Takes (StepsTo text) (statement text k) x y → Takes (StepsTo text) (statement text limit) x y
  derived_within k x y shallow t =
      (t.0, t.1, body t.0 (subst (λ (m : Place). IsNotTooDeep text limit m.at) t.1 shallow) t.2)
    where
      body : (m : Place) → IsNotTooDeep text limit m.at
          → Takes (StepsTo text) (directive text) m y ⊎ Takes (StepsTo text) (triples_and_dot text k) m y
          → Takes (StepsTo text) (directive text) m y ⊎ Takes (StepsTo text) (triples_and_dot text limit) m y
      body m shallow (inl t) = inl t
      body m shallow (inr t) = inr ((dotted_nest k).within m y (triples_counted k m y t shallow) t)

  -- ---- directives, which have no brackets

  tag_nests : (word : List ℕ) → Nests 0 0 (tag_word text word) (tag_word text word)
  tag_nests word =
      item_nests 0 0 (λ t. is_kind LangTag t.kind && pointwise nat_eq (token_text text t) word) (λ t s. s)
      (λ t is. subst (Counts limit 0 0) (sym (kind_is LangTag t.kind (and_parts _ _ is).0))
      (counts_none limit 0 LangTag refl))

  tagged_shallow : (word : List ℕ) (f : Rule) (x y : Place) → Nests 0 0 f f
      → Takes (StepsTo text) (Then (tag_word text word) (Then f (mark Dot))) x y
      → IsNotTooDeep text limit x.at
  tagged_shallow word f x y a t =
      let fits = then_fits (tag_nests word) (then_fits a dot_ends) in
      not_too_deep text limit x.at (fits.back x y t tt)

  word_shallow : (kind : TokenKind) (x y : Place) → is_prefix_or_base kind ≡ true
      → Takes (StepsTo text) (mark kind) x y → IsNotTooDeep text limit x.at
  word_shallow kind x y is t =
      not_counted text limit x.at t.0 utf8 t.1 (rw (kind_is kind t.0.kind t.2) is)

  directive_shallow : (x y : Place) → Takes (StepsTo text) (directive text) x y → IsNotTooDeep text limit x.at
  directive_shallow x y (inl t) =
      tagged_shallow (codes "@prefix") (prefix_binding text) x y
      (then_fits (token_nests (counts_none limit 0 PnameNs refl))
      (token_nests (counts_none limit 0 IriRef refl))) t
  directive_shallow x y (inr (inl t)) =
      tagged_shallow (codes "@base") (base_setting text) x y (token_nests (counts_none limit 0 IriRef refl)) t
  directive_shallow x y (inr (inr (inl t))) = word_shallow WordPrefix x t.0 refl t.1
  directive_shallow x y (inr (inr (inr t))) = word_shallow WordBase x t.0 refl t.1

  -- where a statement has a derivation within the limit, no bracket is one too many
  pub derived_shallow : (x y : Place) → Takes (StepsTo text) (statement text limit) x y
      → IsNotTooDeep text limit x.at
  derived_shallow x y t = subst (λ (m : Place). IsNotTooDeep text limit m.at) (sym t.1) (body t.0 t.2)
    where
      body : (m : Place)
          → Takes (StepsTo text) (directive text) m y ⊎ Takes (StepsTo text) (triples_and_dot text limit) m y
          → IsNotTooDeep text limit m.at
      body m (inl t) = directive_shallow m y t
      body m (inr t) = not_too_deep text limit m.at ((dotted_nest limit).back m y t tt)
