-- What is asked of the links of a platform, over their raw numbers.
use Rattle.std.specs.Prelude.{ℤ, pos, Bool, not, ◌&&◌, int_le, int_lt}
use Rattle.std.specs.Ordering.{int_eq}
use Rattle.soc_base.specs.declared.limits.TheConstants.{ROUTER_PORTS}
use Rattle.platform_model.specs.declared.link.Link.{Link}
use Rattle.platform_model.specs.declared.raw.RawLink.{RawLink}

-- the raw numbers of a link
abbrev pub raw_link : Link → RawLink
raw_link link = record { from = pos link.from; out = pos link.out; to = pos link.to; input = pos link.input }

-- the link leads from one of so many tiles to another
abbrev pub joins_tiles : ℤ → RawLink → Bool
joins_tiles tiles link =
    int_le (pos 0) link.from && int_lt link.from tiles
    && int_le (pos 0) link.to && int_lt link.to tiles
    && not (int_eq link.from link.to)

-- the port is one of a router's, which are numbered from 0 on
abbrev pub is_router_port : ℤ → Bool
is_router_port port = int_le (pos 0) port && int_lt port (pos ROUTER_PORTS)

-- the link's ports are those of routers
abbrev pub has_router_ports : RawLink → Bool
has_router_ports link = is_router_port link.out && is_router_port link.input

-- two links leave one tile by one port
abbrev pub leaves_alike : RawLink → RawLink → Bool
leaves_alike one other = int_eq one.from other.from && int_eq one.out other.out

-- two links enter one tile by one port
abbrev pub enters_alike : RawLink → RawLink → Bool
enters_alike one other = int_eq one.to other.to && int_eq one.input other.input
