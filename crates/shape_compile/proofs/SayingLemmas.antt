-- Lists that are appended to in turn.
use Rattle.std.specs.Prelude.{◌≡◌, List, [], ◌++◌}
use Rattle.std.proofs.Common.{append_assoc}

pub six_in_turn : {S : Type 0} {before one two three four five six : List S} (a b c d e f : List S)
    → before ≡ [] → one ≡ before ++ a → two ≡ one ++ b → three ≡ two ++ c → four ≡ three ++ d
    → five ≡ four ++ e → six ≡ five ++ f → six ≡ a ++ (b ++ (c ++ (d ++ (e ++ f))))
six_in_turn a b c d e f none first second third fourth fifth sixth =
    rw (sixth, fifth, fourth, third, second, first, none) (simp append_assoc)
