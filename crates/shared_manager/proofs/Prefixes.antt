-- Beginnings of lists that grow.
use Rattle.std.proofs.Common.{List, ◌++◌, sym, ◌∙◌, ap, append_assoc}
use mathlib.Core.List.{IsPrefix}

-- what begins a list begins every longer one
pub prefix_more : {X : Type 0} (xs ys zs : List X) → IsPrefix xs ys → IsPrefix xs (ys ++ zs)
prefix_more xs ys zs p = (p.0 ++ zs, sym (append_assoc xs p.0 zs) ∙ ap (λ l. l ++ zs) p.1)
