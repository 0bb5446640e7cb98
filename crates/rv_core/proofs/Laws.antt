-- What is proved of this crate's definitions, for the proofs of the crates above. They cite this file
-- alone.
pub use Rattle.rv_core.proofs.Shapes.{IsShape, effect_shape}
