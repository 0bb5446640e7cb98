-- The ports of a part among those of its tile. The part knows its own by their place in its list, the tile
-- by their numbers.
use Rattle.std.specs.Prelude.{ℕ, ◌<◌, List, [], ◌∷◌, length, map, get_or, slice_set, replicate, nat_eq, All}
use Rattle.std.specs.List.{IsDistinct}
use Rattle.soc_base.specs.Port.{free_port}
use Rattle.ni_port.specs.SizedPort.{SizedPort}

-- a port without places
abbrev pub no_port : SizedPort
no_port = record { queue = 0; port = free_port }

-- the part's own ports, in its order: those of the tile at these numbers
unfoldable pub own_ports : List SizedPort → List ℕ → List SizedPort
own_ports ports numbers = map (λ number. get_or ports number no_port) numbers

-- the tile's ports with these own ports put in their places
unfoldable pub put_ports : List SizedPort → List ℕ → List SizedPort → List SizedPort
put_ports ports [] own = ports
put_ports ports (number ∷ numbers) [] = ports
put_ports ports (number ∷ numbers) (port ∷ own) = put_ports (slice_set ports number port) numbers own

-- the tile's other ports: all of its ports, with no port in the places of the part's own
unfoldable pub other_ports : List SizedPort → List ℕ → List SizedPort
other_ports ports numbers = put_ports ports numbers (replicate (length numbers) no_port)

-- numbers of ports of the tile
abbrev pub AreNumbers : List SizedPort → List ℕ → Type 0
AreNumbers ports numbers = All (λ number. number < length ports) numbers

-- numbers of ports of the tile, none of them twice
pub record AreOwn (ports : List SizedPort) (numbers : List ℕ) : Type 0 where
  pub within : AreNumbers ports numbers
  pub apart : IsDistinct nat_eq numbers

-- ports, each changed by its number on the tile
abbrev pub each_port : (ℕ → SizedPort → SizedPort) → List ℕ → List SizedPort → List SizedPort
each_port change (number ∷ numbers) (port ∷ ports) = change number port ∷ each_port change numbers ports
each_port change (number ∷ numbers) [] = []
each_port change [] ports = []
