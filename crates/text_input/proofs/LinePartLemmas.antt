-- How parts make a line.
use Rattle.std.proofs.Common.{◌≡◌, ℕ, ◌+◌, ◌-◌, ◌≤◌, ◌<◌, Bool, true, false, nat_lt, suc, position, get_or}
use Rattle.std.proofs.Common.{List, [], ◌∷◌, ◌++◌, length, take, drop, min, Option, Some, None}
use Rattle.std.proofs.Common.{refl, sym, ap, subst, ◌∙◌, inl, inr, arith, append_assoc, length-append}
use Rattle.std.proofs.Common.{append-nil, take-append-drop, drop-cons}
use Rattle.std.specs.List.{position_or_len}
use Rattle.std.proofs.lemmas.Bool.{cases_lt, lt-ltb, le-ltb, eqb-true, cond-true}
use Rattle.std.proofs.lemmas.Option.{none-some, same_Some}
use Rattle.std.proofs.lemmas.List.{nil_from_length, take_all, length-take, take-append-le, take-take}
use Rattle.std.proofs.lemmas.List.{drop-take, drop-drop}
use Rattle.std.proofs.lemmas.List.{get_or-take, get_or_default}
use Rattle.std.proofs.lemmas.List.Quantifiers.{position-Some}
use Rattle.std.proofs.lemmas.List.Sums.{fails_before_first}
use Rattle.std.proofs.Math.Seq.{take-append-add}
use Rattle.shx_outside.specs.Told.{Took, IsAtEnd}
use Rattle.shx_outside.proofs.ToldLemmas.{Took-then}
use Rattle.text_input.specs.declared.script_reader.Line.{Line}
use Rattle.text_input.specs.declared.script_reader.Line.TheVariants.{Is, TooLong, End, PastLimit}
use Rattle.text_input.specs.Lines.{is_line_feed, HasNoFeed, script_lines}
use Rattle.text_input.specs.ScriptReader.{ReaderState, left_of, TakenLine, TookEnd, Takes}
use Rattle.text_input.specs.inner.LineParts.{TookPart, IsCut, IsKept}
use Rattle.text_input.proofs.LineLemmas.{HasNoFeed-append}
use Rattle.text_input.proofs.ScriptLineLemmas.{script_lines-first, script_lines-last, script_lines-cut}
use Rattle.text_input.proofs.ScriptLineLemmas.{script_lines-none}
use Rattle.text_input.proofs.ScriptLineLemmas.{longer-behind, longer-first}

-- the bytes taken for a line so far
pub record Gathers (left left' : Option (List ℕ)) (budget budget' most : ℕ) (kept : List ℕ) : Type 0 where
  pub taken : List ℕ
  pub plain : HasNoFeed taken
  pub keeps : kept ≡ take (most + 1) taken
  pub spent : budget ≡ length taken + budget'
  pub took : Took left left' taken

-- pending bytes are taken
Took-pending : (before after : ReaderState) (rest : Option (List ℕ)) (bytes : List ℕ)
    → before.pending ≡ bytes ++ after.pending → Took (left_of before rest) (left_of after rest) bytes
Took-pending before after None bytes is = record { told = λ left none. absurd (none-some left none) }
Took-pending before after (Some rest) bytes is = record {
  told = λ left told. (
    after.pending ++ rest,
    refl,
    sym (same_Some (before.pending ++ rest) left told)
        ∙ ap (λ xs. xs ++ rest) is
        ∙ append_assoc bytes after.pending rest,
  );
}

-- more was read ahead
pub Gathers-filled : (a b c : Option (List ℕ)) (budget before after most : ℕ) (kept : List ℕ)
    → Gathers a b budget before most kept → Took b c [] → after ≡ before → Gathers a c budget after most kept
Gathers-filled a b c budget before after most kept g t same = record {
  taken = g.taken;
  plain = g.plain;
  keeps = g.keeps;
  spent = rw same g.spent;
  took = subst (Took a c) (append-nil g.taken) (Took-then g.took t);
}

-- a front of what was kept, and a part
take-take_append : (n : ℕ) (xs ys : List ℕ) → take n (take n xs ++ ys) ≡ take n (xs ++ ys)
take-take_append n xs ys =
    elim (cases_lt (length xs) n) [
      | inl short ↦ ap (λ front. take n (front ++ ys)) (take_all n xs (omega arith))
      | inr long ↦
          take-append-le n (take n xs) ys (omega (arith, length-take n xs))
          ∙ take-take n n xs (omega arith)
          ∙ sym (take-append-le n xs ys long)
    ]

-- the line so far, of which a front was kept
keeps-on : (most : ℕ) (kept kept' taken part : List ℕ) → kept ≡ take (most + 1) taken
    → kept' ≡ take (most + 1) (kept ++ part) → kept' ≡ take (most + 1) (taken ++ part)
keeps-on most kept kept' taken part first second =
    second
    ∙ ap (λ front. take (most + 1) (front ++ part)) first
    ∙ take-take_append (most + 1) taken part

-- a line that was read, of which a front was kept
kept_whole : (most : ℕ) (whole kept : List ℕ)
    → kept ≡ take (most + 1) whole → length kept ≤ most → whole ≡ kept
kept_whole most whole kept keeps short =
    let size = length-take (most + 1) whole in
    sym (keeps ∙ take_all (most + 1) whole (omega (arith, ap length keeps, size)))

-- the first line of what was left, where it is told
record Behind (left left' : Option (List ℕ)) (budget budget' : ℕ) (ended : Bool)
    (whole : List ℕ) : Type 0 where
  told : (bytes : List ℕ) → left ≡ Some bytes
      → TakenLine bytes left' budget budget' ended (λ first. first ≡ whole)

line_of-whole : {bytes whole : List ℕ} {left' : Option (List ℕ)} {budget budget' : ℕ} {ended : Bool}
    (is_line : List ℕ → Type 0) → is_line whole
    → TakenLine bytes left' budget budget' ended (λ first. first ≡ whole)
    → TakenLine bytes left' budget budget' ended is_line
line_of-whole is_line is t = record {
  first = t.first;
  line = subst is_line (sym t.line) is;
  rest = t.rest;
  left = t.left;
  begins = t.begins;
  lines = t.lines;
  longer = t.longer;
}

module _ (left left' : Option (List ℕ)) (budget budget' most : ℕ) (ended : Bool) (whole kept : List ℕ) where
  line_read : kept ≡ take (most + 1) whole → budget' < budget → Behind left left' budget budget' ended whole
      → (line : Line) → IsKept kept most line → Takes left left' budget budget' ended most line
  line_read keeps less behind (Is line) is =
      let same : whole ≡ line.items = kept_whole most whole kept keeps is.1 ∙ sym is.0 in
      let is_line : List ℕ → Type 0 = λ first. first ≡ line.items in
      (record { told = λ bytes at. line_of-whole is_line same (behind.told bytes at) }, rw is.0 is.1, less)
  line_read keeps less behind TooLong is =
      let long : most < length whole = omega (arith, is, ap length keeps, length-take (most + 1) whole) in
      let is_line : List ℕ → Type 0 = λ first. most < length first in
      (record { told = λ bytes at. line_of-whole is_line long (behind.told bytes at) }, less)
  line_read keeps less behind End is = absurd is
  line_read keeps less behind PastLimit is = absurd is

-- what is left behind pending bytes
pub Pending-front : (reader : ReaderState) (rest : Option (List ℕ)) (left : List ℕ)
    → left_of reader rest ≡ Some left
    → (behind : List ℕ) × (left ≡ reader.pending ++ behind) × (rest ≡ Some behind)
Pending-front reader None left is = absurd (none-some left is)
Pending-front reader (Some behind) left is =
    (behind, sym (same_Some (reader.pending ++ behind) left is), refl)

pub nothing_pending : (reader : ReaderState) (rest : Option (List ℕ)) (left : List ℕ)
    → reader.pending ≡ [] → left_of reader rest ≡ Some left → rest ≡ Some left
nothing_pending reader rest left none is =
    let behind = Pending-front reader rest left is in
    behind.2 ∙ ap Some (sym (behind.1 ∙ ap (λ xs. xs ++ behind.0) none))

-- a limit within what follows a front
cut_front : (budget before : ℕ) (taken bytes pending behind : List ℕ) → budget ≡ length taken + before
    → before ≤ length pending → bytes ≡ taken ++ (pending ++ behind)
    → take budget bytes ≡ taken ++ take before pending
cut_front budget before taken bytes pending behind spent within is =
    ap (take budget) is
    ∙ ap (λ n. take n (taken ++ (pending ++ behind))) spent
    ∙ take-append-add taken (pending ++ behind) before
    ∙ ap (λ xs. taken ++ xs) (take-append-le before pending behind within)

-- where the first line feed stands
no_feed : (xs : List ℕ) → position is_line_feed xs ≡ None → HasNoFeed xs
no_feed xs e =
    let at = position_or_len is_line_feed xs in
    elim (cases_lt at (length xs)) [
      | inl within ↦
          let found = cond-true (nat_lt at (length xs)) (Some at) None (lt-ltb at (length xs) within) in
          absurd (none-some at (sym e ∙ found))
      | inr past ↦ record { each = λ k d below. fails_before_first is_line_feed xs k d (omega arith) }
    ]

feeds_before : (xs : List ℕ) (place : ℕ) → ((k : ℕ) → k < place → is_line_feed (get_or xs k 0) ≡ false)
    → place < length xs → (k d : ℕ) → k < length (take place xs)
    → is_line_feed (get_or (take place xs) k d) ≡ false
feeds_before xs place none inside k d below =
    let before : k < place = omega (arith, length-take place xs) in
    ap is_line_feed (get_or-take place xs k d before ∙ get_or_default xs k d 0 (omega arith)) ∙ none k before

split_here : (xs : List ℕ) (place : ℕ)
    → place < length xs → get_or xs place 0 ≡ 10 → drop place xs ≡ 10 ∷ drop (place + 1) xs
split_here xs place inside feed =
    let e : suc place ≡ place + 1 = omega arith in
    drop-cons xs place 0 inside ∙ ap (λ b. b ∷ drop (suc place) xs) feed ∙ ap (λ n. 10 ∷ drop n xs) e

module _ (a rest : Option (List ℕ)) (before after : ReaderState) (budget most : ℕ) (kept kept' : List ℕ)
    (g : Gathers a (left_of before rest) budget before.budget most kept) where
  pub Gathers-part : TookPart before after [] kept kept' most
      → Gathers a (left_of after rest) budget after.budget most kept'
  Gathers-part t = record {
    taken = g.taken ++ t.part;
    plain = HasNoFeed-append g.taken t.part g.plain t.plain;
    keeps = keeps-on most kept kept' g.taken t.part g.keeps t.keeps;
    spent = omega (arith, length-append g.taken t.part, g.spent, t.budget);
    took = Took-then g.took (Took-pending before after rest t.part t.pending);
  }

  took_line : (t : TookPart before after (10 ∷ []) kept kept' most)
      → Took a (left_of after rest) (g.taken ++ (t.part ++ 10 ∷ []))
  took_line t =
      let split = t.pending ∙ sym (append_assoc t.part (10 ∷ []) after.pending) in
      Took-then g.took (Took-pending before after rest (t.part ++ 10 ∷ []) split)

  line_behind : (t : TookPart before after (10 ∷ []) kept kept' most)
      → Behind a (left_of after rest) budget after.budget after.ended (g.taken ++ t.part)
  line_behind t =
      let whole = g.taken ++ t.part in
      let plain = HasNoFeed-append g.taken t.part g.plain t.plain in
      let spent : budget ≡ length whole + (1 + after.budget) =
      omega (arith, length-append g.taken t.part, g.spent, t.budget) in
      record {
        told = λ bytes is.
            let front = (took_line t).told bytes is in
            let at : bytes ≡ whole ++ 10 ∷ front.0 =
            front.2
            ∙ ap (λ xs. xs ++ front.0) (sym (append_assoc g.taken t.part (10 ∷ [])))
            ∙ append_assoc whole (10 ∷ []) front.0 in
            record {
              first = whole;
              line = refl;
              rest = front.0;
              left = front.1;
              begins = record { plain = plain; ends = inl at };
              lines =
                  ap (script_lines budget) at
                  ∙ script_lines-first whole front.0 budget after.budget spent plain;
              longer =
                  ap (λ xs. nat_lt budget (length xs)) at
                  ∙ longer-first whole front.0 budget after.budget spent;
            };
      }

  -- the line ends at a line feed
  pub line-ended : TookPart before after (10 ∷ []) kept kept' most → (line : Line) → IsKept kept' most line
      → Takes a (left_of after rest) budget after.budget after.ended most line
  line-ended t =
      let keeps = keeps-on most kept kept' g.taken t.part g.keeps t.keeps in
      line_read a (left_of after rest) budget after.budget most after.ended (g.taken ++ t.part) kept' keeps
      (omega (arith, g.spent, t.budget)) (line_behind t)

  -- the limit comes before a line feed
  pub line-cut : IsCut before after
      → Takes a (left_of after rest) budget after.budget after.ended most PastLimit
  line-cut t = record {
    told = λ bytes is.
        let front = g.took.told bytes is in
        let behind = Pending-front before rest front.0 front.1 in
        let at : bytes ≡ g.taken ++ (before.pending ++ behind.0) =
        front.2 ∙ ap (λ xs. g.taken ++ xs) behind.1 in
        let within : before.budget ≤ length before.pending = omega (arith, t.longer) in
        let plain = HasNoFeed-append g.taken (take before.budget before.pending) g.plain t.plain in
        let cut = cut_front budget before.budget g.taken bytes before.pending behind.0 g.spent within at in
        let is_cut : HasNoFeed (take budget bytes) = rw cut plain in
        let size = ap length at ∙ length-append g.taken (before.pending ++ behind.0) in
        let longer : budget < length bytes =
        omega (arith, size, length-append before.pending behind.0, t.longer, g.spent) in
        (script_lines-cut budget bytes is_cut longer, lt-ltb budget (length bytes) longer);
    at_end = λ no. absurd (cc);
  }

module _ (a rest : Option (List ℕ)) (reader : ReaderState) (budget most : ℕ) (kept : List ℕ)
    (g : Gathers a (left_of reader rest) budget reader.budget most kept) (none : reader.pending ≡ []) where
  last_behind : IsAtEnd rest → reader.ended ≡ true → 0 < length g.taken
      → Behind a (left_of reader rest) budget reader.budget reader.ended g.taken
  last_behind end ended some = record {
    told = λ bytes is.
        let front = g.took.told bytes is in
        let nothing = end.told front.0 (nothing_pending reader rest front.0 none front.1) in
        let at : bytes ≡ g.taken ++ [] = front.2 ∙ ap (λ xs. g.taken ++ xs) nothing in
        let same : bytes ≡ g.taken = at ∙ append-nil g.taken in
        record {
          first = g.taken;
          line = refl;
          rest = [];
          left = front.1 ∙ ap Some nothing;
          begins = record { plain = g.plain; ends = inr (same, refl, ended) };
          lines =
              ap (script_lines budget) same
              ∙ script_lines-last g.taken budget reader.budget g.plain some (omega (arith, g.spent));
          longer =
              ap (λ xs. nat_lt budget (length xs)) at
              ∙ longer-behind g.taken [] budget reader.budget g.spent;
        };
  }

  -- a last line without a line feed
  pub line-last : IsAtEnd rest → reader.ended ≡ true → 0 < length kept → (line : Line) → IsKept kept most line
      → Takes a (left_of reader rest) budget reader.budget reader.ended most line
  line-last end ended some =
      let taken : 0 < length g.taken = omega (arith, ap length g.keeps, length-take (most + 1) g.taken) in
      line_read a (left_of reader rest) budget reader.budget most reader.ended g.taken kept g.keeps
      (omega (arith, g.spent)) (last_behind end ended taken)

  -- nothing was taken, and nothing is left
  pub line-none : IsAtEnd rest → length kept ≡ 0 → TookEnd a (left_of reader rest) budget false
  line-none end empty =
      let size : length g.taken ≡ 0 =
      omega (arith, ap length g.keeps, length-take (most + 1) g.taken, empty) in
      record {
        told = λ bytes is.
            let front = g.took.told bytes is in
            let nothing = end.told front.0 (nothing_pending reader rest front.0 none front.1) in
            let at : bytes ≡ [] =
            front.2
            ∙ ap (λ xs. g.taken ++ xs) nothing
            ∙ append-nil g.taken
            ∙ nil_from_length g.taken size in (
              ap (script_lines budget) at ∙ script_lines-none budget,
              ap (λ xs. nat_lt budget (length xs)) at ∙ le-ltb budget 0 (omega arith),
            );
        at_end = λ _ left is. end.told left (nothing_pending reader rest left none is);
      }

-- how the bytes that are read ahead continue a line
module _ (before after : ReaderState) (within : List ℕ) (most : ℕ)
    (is : within ≡ take before.budget before.pending) where
  size_within : length within ≡ min before.budget (length before.pending)
  size_within = ap length is ∙ length-take before.budget before.pending

  pub part-cut : position is_line_feed within ≡ None → length within < length before.pending
      → IsCut before before
  part-cut none less = record {
    plain = subst HasNoFeed is (no_feed within none);
    longer = omega (arith, size_within);
    same = refl;
  }

  -- all that is pending is inside the line
  pub part-inner : (kept kept' : List ℕ) → position is_line_feed within ≡ None → 0 < length before.pending
      → length before.pending ≤ length within → kept' ≡ take (most + 1) (kept ++ within)
      → after.pending ≡ drop (length within) before.pending → after.budget ≡ before.budget - length within
      → TookPart before after [] kept kept' most × (after.budget < before.budget)
  part-inner kept kept' none some all keeps left spent =
      let whole : within ≡ before.pending =
      is ∙ take_all before.budget before.pending (omega (arith, size_within)) in (
        record {
          part = within;
          plain = no_feed within none;
          keeps = keeps;
          pending =
              sym (take-append-drop (length within) before.pending)
              ∙ ap (λ xs. xs ++ drop (length within) before.pending)
              (take_all (length within) before.pending all ∙ sym whole)
              ∙ ap (λ xs. within ++ xs) (sym left);
          budget = omega (arith, size_within);
        },
        omega (arith, size_within),
      )

  -- the first line feed ends the line
  pub part-last : (kept kept' : List ℕ) (place : ℕ) → position is_line_feed within ≡ Some place
      → kept' ≡ take (most + 1) (kept ++ take place within) → after.pending ≡ drop (place + 1) before.pending
      → after.budget ≡ before.budget - (place + 1) → TookPart before after (10 ∷ []) kept kept' most
  part-last kept kept' place at keeps left spent =
      let found = position-Some is_line_feed within place 0 at in
      let inside : place < length before.pending = omega (arith, found.0, size_within) in
      let front : take place within ≡ take place before.pending =
      ap (take place) is
      ∙ take-take place before.budget before.pending (omega (arith, found.0, size_within)) in
      let here = get_or-take before.budget before.pending place 0 (omega (arith, found.0, size_within)) in
      let feed : get_or before.pending place 0 ≡ 10 =
      sym here ∙ ap (λ xs. get_or xs place 0) (sym is) ∙ eqb-true (get_or within place 0) 10 found.1 in
      let behind = split_here before.pending place inside feed ∙ ap (λ xs. 10 ∷ xs) (sym left) in
      record {
        part = take place within;
        plain = record { each = λ k d below. feeds_before within place found.2 found.0 k d below };
        keeps = keeps;
        pending =
            sym (take-append-drop place before.pending)
            ∙ ap (λ xs. xs ++ drop place before.pending) (sym front)
            ∙ ap (λ xs. take place within ++ xs) behind;
        budget = omega (arith, length-take place within, found.0, size_within);
      }

-- the bytes behind some of those that are pending
pub pending-behind : (piece pending : List ℕ) (start end count : ℕ)
    → pending ≡ take (end - start) (drop start piece) → count ≤ length pending
    → take (end - (start + count)) (drop (start + count) piece) ≡ drop count pending
pending-behind piece pending start end count is within =
    let some : count + (end - (start + count)) ≡ end - start =
    omega (arith, ap length is, length-take (end - start) (drop start piece)) in
    ap (take (end - (start + count))) (sym (drop-drop count start piece))
    ∙ sym (drop-take count (end - (start + count)) (drop start piece))
    ∙ ap (λ n. drop count (take n (drop start piece))) some
    ∙ ap (drop count) (sym is)

-- as many bytes behind a line as there is room for
pub kept-front : (line bytes : List ℕ) (len most : ℕ) → len ≡ length line → len ≤ most
    → line ++ take (most - len + 1) bytes ≡ take (most + 1) (line ++ bytes)
kept-front line bytes len most is short =
    let room : length line + (most - len + 1) ≡ most + 1 = omega arith in
    sym (take-append-add line bytes (most - len + 1)) ∙ ap (λ n. take n (line ++ bytes)) room
