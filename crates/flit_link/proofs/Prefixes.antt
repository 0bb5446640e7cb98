-- Lists that begin alike.
use Rattle.std.proofs.Common.{◌≡◌, ◌∙◌, List, ◌∷◌, ◌++◌, map, ap, sym, append_assoc}
use Rattle.std.proofs.lemmas.List.{map-append}
use mathlib.Core.List.{IsPrefix}
use Rattle.soc_base.specs.Port.{idle}
use Rattle.flit_link.specs.declared.ends.LinkOut.{LinkOut}
use Rattle.flit_link.specs.declared.ends.LinkIn.{LinkIn}
use Rattle.flit_link.specs.Flits.{latched}
use Rattle.flit_link.specs.Link.{flits_set, flits_taken, flits_known, AreInLine}

-- the images of a prefix are a prefix of the images
pub prefix_map : {X Y : Type 0} (f : X → Y) (xs ys : List X) → IsPrefix xs ys → IsPrefix (map f xs) (map f ys)
prefix_map f xs ys (rest, is) = (map f rest, sym (map-append f xs rest) ∙ ap (map f) is)

-- the same where the first image has another name
pub prefix_popped : {X Y : Type 0} (f : X → Y) (x : X) (y : Y) (xs ys : List X) → y ≡ f x → IsPrefix xs (x ∷ ys) → IsPrefix (map f xs) (y ∷ map f ys)
prefix_popped f x y xs ys is prefix = rw is (prefix_map f xs (x ∷ ys) prefix)

-- what was taken begins what was set, where the ends are in line
pub prefix_in_line : (out : LinkOut) (into : LinkIn) → AreInLine out into → IsPrefix (flits_taken into) (idle ∷ flits_set out)
prefix_in_line out into line = (
  latched into.latch ++ flits_known into ++ latched out.latch,
  sym (append_assoc (flits_taken into) (latched into.latch ++ flits_known into) (latched out.latch))
      ∙ ap (λ flits. flits ++ latched out.latch) (sym (append_assoc (flits_taken into) (latched into.latch) (flits_known into)))
      ∙ line,
)
