use Rattle.std.proofs.Common.{◌≡◌, true, not, ap, ◌∙◌, arith}
use Rattle.std.specs.List.{list_all}
use Rattle.std.specs.Ordering.{int_eq}
use Rattle.std.proofs.lemmas.Bool.{and_parts}
use Rattle.soc_base.specs.Twins.{has_twin}
use Rattle.platform_model.specs.declared.platform.Platform.{Platform}
use Rattle.bundle_model.specs.declared.raw.RawPart.{RawPart}
use Rattle.bundle_model.specs.Rules.{is_port, has_ports}
use Rattle.bundle_model.specs.inner.Bytes.{are_bytes}
use Rattle.bundle_model.proofs.Raws.{all_below, bytes}
use Rattle.bundle_model.proofs.part.made.Goals as goal

port_bytes : (platform : Platform) (part : RawPart) → has_ports platform part ≡ true → are_bytes part.ports ≡ true
port_bytes platform part kept =
    let both = and_parts (list_all (is_port platform) part.ports) (not (has_twin int_eq part.ports)) kept in
    let few = platform.ports_in_range in
    bytes platform.ports part.ports (omega arith) (all_below platform.ports part.ports both.0)

pub bytes-requires : goal.bytes-requires
bytes-requires c = ap are_bytes c.as_slice.ensures ∙ port_bytes c.args.platform.now c.args.raw.now c.requires.ports
