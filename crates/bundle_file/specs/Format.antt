-- The format of bundle files: the keys of each of its tables.
use Rattle.std.specs.Prelude.{codes, List, [], ◌∷◌}
use Rattle.toml_keys.specs.Keys.{KeyRule, required_key, optional_key, integer_shape, text_shape, table_shape, integers_shape, texts_shape, tables_shape}

-- the keys at the top of the file
unfoldable pub top_keys : List KeyRule
top_keys =
    required_key (codes "version") integer_shape
    ∷ required_key (codes "part") tables_shape
    ∷ optional_key (codes "pair") tables_shape
    ∷ []

-- the keys of a part
unfoldable pub part_keys : List KeyRule
part_keys =
    required_key (codes "tile") integer_shape
    ∷ required_key (codes "slots") integers_shape
    ∷ required_key (codes "base") integer_shape
    ∷ required_key (codes "len") integer_shape
    ∷ required_key (codes "entry") integer_shape
    ∷ required_key (codes "trace") integer_shape
    ∷ required_key (codes "image") text_shape
    ∷ optional_key (codes "kinds") texts_shape
    ∷ optional_key (codes "ports") integers_shape
    ∷ []

-- the keys of a channel pair
unfoldable pub pair_keys : List KeyRule
pair_keys =
    required_key (codes "a") integers_shape
    ∷ required_key (codes "b") integers_shape
    ∷ required_key (codes "there") table_shape
    ∷ required_key (codes "back") table_shape
    ∷ []

-- the keys of a channel
unfoldable pub channel_keys : List KeyRule
channel_keys = required_key (codes "path") integers_shape ∷ required_key (codes "slots") integers_shape ∷ []
