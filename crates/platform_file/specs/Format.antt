-- The format of platform files: the keys of each of its tables.
use Rattle.std.specs.Prelude.{codes, List, [], ◌∷◌}
use Rattle.toml_keys.specs.Keys.{KeyRule, required_key, optional_key, integer_shape, table_shape, tables_shape}

-- the keys at the top of the file
unfoldable pub top_keys : List KeyRule
top_keys =
    required_key (codes "tiles") integer_shape
    ∷ required_key (codes "mem_bytes") integer_shape
    ∷ required_key (codes "slot_cycles") integer_shape
    ∷ required_key (codes "table_slots") integer_shape
    ∷ required_key (codes "kernel_cycles") integer_shape
    ∷ required_key (codes "partition_cycles") integer_shape
    ∷ required_key (codes "partition_slots") integer_shape
    ∷ required_key (codes "ports") integer_shape
    ∷ required_key (codes "queue") integer_shape
    ∷ optional_key (codes "link") tables_shape
    ∷ optional_key (codes "costs") table_shape
    ∷ []

-- the keys of a link
unfoldable pub link_keys : List KeyRule
link_keys =
    required_key (codes "from") integer_shape
    ∷ required_key (codes "out") integer_shape
    ∷ required_key (codes "to") integer_shape
    ∷ required_key (codes "input") integer_shape
    ∷ []

-- the keys of the costs
unfoldable pub cost_keys : List KeyRule
cost_keys =
    optional_key (codes "integer") integer_shape
    ∷ optional_key (codes "mul") integer_shape
    ∷ optional_key (codes "div") integer_shape
    ∷ optional_key (codes "load") integer_shape
    ∷ optional_key (codes "store") integer_shape
    ∷ optional_key (codes "taken") integer_shape
    ∷ optional_key (codes "untaken") integer_shape
    ∷ optional_key (codes "jump") integer_shape
    ∷ optional_key (codes "device") integer_shape
    ∷ optional_key (codes "system") integer_shape
    ∷ []
