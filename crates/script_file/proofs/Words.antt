-- The first five words of a line tell what it means.
use Rattle.std.proofs.Common.{◌≡◌, ℕ, List, [], ◌∷◌, length, take, refl, arith}
use Rattle.std.proofs.lemmas.Bool.{ne_eqb}
use Rattle.script_file.specs.Commands.{words_meaning}

pub five_tell : (words : List (List ℕ)) → words_meaning (take 5 words) ≡ words_meaning words
five_tell [] = refl
five_tell (a ∷ []) = refl
five_tell (a ∷ b ∷ []) = refl
five_tell (a ∷ b ∷ c ∷ []) = refl
five_tell (a ∷ b ∷ c ∷ d ∷ []) = refl
five_tell (a ∷ b ∷ c ∷ d ∷ e ∷ words) =
    let all = a ∷ b ∷ c ∷ d ∷ e ∷ words in
    rw (ne_eqb (length all) 0 (omega arith), ne_eqb (length all) 4 (omega arith), ne_eqb (length all) 2 (omega arith))
