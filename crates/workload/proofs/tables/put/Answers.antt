use Rattle.std.proofs.Common.{◌≡◌, string_bytes, ap, ◌∙◌, rules}
use Rattle.toml.specs.View.{view, members_view}
use Rattle.workload.specs.inner.Inserted.{with_key}
use Rattle.workload.proofs.Inserting.{members_of_insert}
use Rattle.workload.proofs.tables.put.Goals as goal

pub returns : goal.returns
returns c =
    let old = c.args.into.now.entries in
    let copied : string_bytes c.in_ok-key.key ≡ c.args.key.now = search rules in
    ap members_view c.in_ok-insert.ensures.entries ∙ members_of_insert old c.in_ok-key.key c.args.value
    ∙ ap (λ k. with_key k (view c.args.value) (members_view old)) copied
