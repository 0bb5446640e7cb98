-- A platform is told by its raw numbers.
use Rattle.std.proofs.Common.{◌≡◌, List, [], ◌∷◌, map, refl, sym, ap, ◌∙◌}
use Rattle.std.specs.Prelude.{nat_abs}
use Rattle.platform_model.specs.Links.{raw_link}
use Rattle.platform_model.specs.Platform.{raw_of, raw_costs}
use Rattle.platform_model.specs.declared.link.Link.{Link}
use Rattle.platform_model.specs.declared.costs.Costs.{Costs}
use Rattle.platform_model.specs.declared.platform.Platform.{Platform}
use Rattle.platform_model.specs.declared.raw.RawLink.{RawLink}
use Rattle.platform_model.specs.contracts.costs.Costs as costs_contract
use Rattle.platform_model.specs.contracts.platform.Platform as platform_contract

-- the link of raw numbers
link_of_raw : RawLink → Link
link_of_raw raw = record { from = nat_abs raw.from; out = nat_abs raw.out; to = nat_abs raw.to; input = nat_abs raw.input }

links_back : (links : List Link) → map link_of_raw (map raw_link links) ≡ links
unfolding link_of_raw
links_back [] = refl
links_back (link ∷ links) = ap (λ rest. link ∷ rest) (links_back links)

same_links : (links others : List Link) → map raw_link links ≡ map raw_link others → links ≡ others
same_links links others same = sym (links_back links) ∙ ap (map link_of_raw) same ∙ links_back others

-- costs with the same raw numbers are the same
pub same_costs : (costs other : Costs) → raw_costs costs ≡ raw_costs other → costs ≡ other
same_costs costs other same =
    let integer : costs.integer ≡ other.integer = ap (λ raw. nat_abs raw.integer) same in
    let mul : costs.mul ≡ other.mul = ap (λ raw. nat_abs raw.mul) same in
    let div : costs.div ≡ other.div = ap (λ raw. nat_abs raw.div) same in
    let load : costs.load ≡ other.load = ap (λ raw. nat_abs raw.load) same in
    let store : costs.store ≡ other.store = ap (λ raw. nat_abs raw.store) same in
    let taken : costs.taken ≡ other.taken = ap (λ raw. nat_abs raw.taken) same in
    let untaken : costs.untaken ≡ other.untaken = ap (λ raw. nat_abs raw.untaken) same in
    let jump : costs.jump ≡ other.jump = ap (λ raw. nat_abs raw.jump) same in
    let device : costs.device ≡ other.device = ap (λ raw. nat_abs raw.device) same in
    let system : costs.system ≡ other.system = ap (λ raw. nat_abs raw.system) same in
    costs_contract.the_row.coded.inj costs other cc

-- platforms with the same raw numbers are the same
pub same_platform : (platform other : Platform) → raw_of platform ≡ raw_of other → platform ≡ other
same_platform platform other same =
    let tiles : platform.tiles ≡ other.tiles = ap (λ raw. nat_abs raw.tiles) same in
    let mem_bytes : platform.mem_bytes ≡ other.mem_bytes = ap (λ raw. nat_abs raw.mem_bytes) same in
    let slot_cycles : platform.slot_cycles ≡ other.slot_cycles = ap (λ raw. nat_abs raw.slot_cycles) same in
    let table_slots : platform.table_slots ≡ other.table_slots = ap (λ raw. nat_abs raw.table_slots) same in
    let kernel_cycles : platform.kernel_cycles ≡ other.kernel_cycles = ap (λ raw. nat_abs raw.kernel_cycles) same in
    let partition_cycles : platform.partition_cycles ≡ other.partition_cycles = ap (λ raw. nat_abs raw.partition_cycles) same in
    let partition_slots : platform.partition_slots ≡ other.partition_slots = ap (λ raw. nat_abs raw.partition_slots) same in
    let ports : platform.ports ≡ other.ports = ap (λ raw. nat_abs raw.ports) same in
    let queue : platform.queue ≡ other.queue = ap (λ raw. nat_abs raw.queue) same in
    let links : platform.links ≡ other.links = same_links platform.links other.links (ap (λ raw. raw.links) same) in
    let costs : platform.costs ≡ other.costs = same_costs platform.costs other.costs (ap (λ raw. raw.costs) same) in
    platform_contract.the_row.coded.inj platform other cc
