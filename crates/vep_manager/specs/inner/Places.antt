-- Where a resource lies in an index of owners: a row, and a range of bytes in it.
use Rattle.std.specs.Prelude.{ℕ, ◌+◌, ◌*◌, nat_lt, if◌then◌else◌}
use Rattle.bundle_model.specs.declared.resource.Resource.{Resource}
use Rattle.bundle_model.specs.declared.resource.Resource.TheVariants.{Partition, Span, Port, Inject, LinkSlot, Deliver}
use Rattle.vep_manager.specs.declared.owners.places.TheConstants.{GROUP, PARTITIONS, PORTS, INJECTS, DELIVERS}

-- the first byte of a span; 0 for other resources
abbrev pub low_of : Resource → ℕ
low_of (Span tile base len) = base
low_of (Partition tile slot) = 0
low_of (Port tile port) = 0
low_of (Inject tile slot) = 0
low_of (LinkSlot link slot) = 0
low_of (Deliver tile slot) = 0

-- the byte behind a span; 0 for other resources
abbrev pub high_of : Resource → ℕ
high_of (Span tile base len) = base + len
high_of (Partition tile slot) = 0
high_of (Port tile port) = 0
high_of (Inject tile slot) = 0
high_of (LinkSlot link slot) = 0
high_of (Deliver tile slot) = 0

-- the number of a place on a platform of so many tiles. All spans of a tile have one place.
abbrev pub place_of : ℕ → Resource → ℕ
place_of tiles (Span tile base len) = tile * GROUP
place_of tiles (Partition tile slot) = tile * GROUP + PARTITIONS + slot
place_of tiles (Port tile port) = tile * GROUP + PORTS + port
place_of tiles (Inject tile slot) = tile * GROUP + INJECTS + slot
place_of tiles (LinkSlot link slot) = (tiles + link) * GROUP + slot
place_of tiles (Deliver tile slot) = tile * GROUP + DELIVERS + slot

-- the row of a resource among so many: that of its place; row 0 where there are fewer
abbrev pub row_of : ℕ → ℕ → Resource → ℕ
row_of tiles rows resource = if nat_lt (place_of tiles resource) rows then place_of tiles resource else 0
