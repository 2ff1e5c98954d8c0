-- Words ask for one number of nodes at most.
use Rattle.std.proofs.Common.{◌≡◌, ℕ, ◌<◌, ◌^◌, List, [], ◌∷◌, get_or, sym, ap, ◌∙◌, arith}
use Rattle.std.specs.Prelude.{decimal}
use Rattle.std.proofs.lemmas.Fmt.{decimal_injective}
use Rattle.shacl_drill.specs.Size.{AskFor}

same_decimal : (m n : ℕ) → m < 2 ^ 64 → n < 2 ^ 64 → decimal m ∷ [] ≡ decimal n ∷ [] → m ≡ n
same_decimal m n first second is =
    let digits : decimal m ≡ decimal n = cc in
    decimal_injective m n first second digits

pub one_size : (words : List (List ℕ)) (m n : ℕ) → AskFor words m → AskFor words n → m ≡ n
one_size words m n first second =
    same_decimal m n (omega (arith, first.few)) (omega (arith, second.few))
    (sym first.one_word ∙ second.one_word)

-- where the first word has these digits, it is their number that is asked for
pub asked_size : (words : List (List ℕ)) (word : List ℕ) (m n : ℕ) → word ≡ get_or words 0 word
    → word ≡ decimal m → m < 2 ^ 64 → AskFor words n → m ≡ n
asked_size words word m n first digits fits asked =
    let is : decimal m ≡ decimal n = sym digits ∙ first ∙ ap (λ ws. get_or ws 0 word) asked.one_word in
    decimal_injective m n fits (omega (arith, asked.few)) is
