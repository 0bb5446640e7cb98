-- What is proved of slot tables read place by place, for the proofs of the crates above. They cite this
-- file alone.
pub use Rattle.tdm_network.proofs.SpotLemmas.{spots-free, spots-installed, spots-removed, laid_out-free, laid_out-installed, laid_out-removed}
pub use Rattle.tdm_network.proofs.RoutingLemmas.{injecting_is, output_is, delivery_is, nobody_injects, nothing_routed}
