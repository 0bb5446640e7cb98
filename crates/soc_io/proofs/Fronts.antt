-- What a front of bytes tells of all of them, where these are known.
use Rattle.std.proofs.Common.{◌≡◌, ℕ, ◌<◌, ◌≤◌, List, [], ◌++◌, take, length, min, Option, Some, None, IfSome, arith, ap, subst, ◌∙◌}
use Rattle.std.specs.Option.{option_map}
use Rattle.std.proofs.lemmas.List.{take_all, length-take}

front_whole : (known : Option (List ℕ)) (front : List ℕ) (limit n : ℕ) → IfSome (option_map (take limit) known) (λ bytes. front ≡ bytes) → length front ≤ n → n < limit → IfSome known (λ bytes. front ≡ bytes)
front_whole (Some bytes) front limit n is short below =
    let count : length front ≡ min limit (length bytes) = ap length is ∙ length-take limit bytes in
    is ∙ take_all limit bytes (omega (arith, count, short, below))
front_whole None front limit n is short below = tt

-- what was read of the bytes up to a limit, into what was empty, is all of them where it stays below
pub whole_front : (known left : Option (List ℕ)) (before front : List ℕ) (limit n : ℕ) → IfSome (option_map (take limit) left) (λ bytes. front ≡ before ++ bytes) → before ≡ [] → left ≡ known → length front ≤ n → n < limit → IfSome known (λ bytes. front ≡ bytes)
whole_front known left before front limit n is empty same short below =
    let P : List ℕ → Type 0 = λ b. IfSome (option_map (take limit) left) (λ bytes. front ≡ b ++ bytes) in
    let Q : Option (List ℕ) → Type 0 = λ k. IfSome (option_map (take limit) k) (λ bytes. front ≡ bytes) in
    front_whole known front limit n (subst Q same (subst P empty is)) short below
