use Rattle.std.proofs.Common.{◌≡◌, ◌-◌, ◌∙◌, ◌++◌, take, ap, arith}
use Rattle.soc_io.proofs.Writing.{front_taken}
use Rattle.soc_io.proofs.mem_sink.MemSinkSink.write.Goals as goal

-- what fits is a front of the bytes
pub returns-then-bytes-left-clause-answer : goal.returns-then-bytes-left-clause-answer
returns-then-bytes-left-clause-answer c =
    let left = c.self.inside.space - c.len.result in
    let held : c.append.new.held.items ≡ c.args.self.now.given ++ take left c.args.bytes.now = c.append.ensures.items ∙ ap (λ t. t.given ++ take left c.args.bytes.now) c.self.view_is in (
      front_taken c.args.self.now.given c.args.bytes.now left c.append.new.held.items held,
      omega (arith, c.saturating_add-self-inside-then-bytes-left.ensures, ap (λ t. t.faults) c.self.view_is),
    )
