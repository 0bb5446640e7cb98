-- What a trace tells.
use Rattle.std.specs.Prelude.{List, map}
use Rattle.trace_log.specs.Log.{Log}
use Rattle.bundle_model.specs.declared.bundle.Part.{Part}
use Rattle.alone_model.specs.declared.application.Application.{Application}
use Rattle.alone_model.specs.Network.{AppPart}
use Rattle.alone_model.specs.App.{AppState}

-- of a part
abbrev pub part_told : AppPart → Part × Log
part_told p = (p.part, p.state.log)

-- of an application: two of which this is the same have the same traces
abbrev pub told : AppState → List (Part × Log)
told app = map part_told app.parts

-- what the engine's application is
abbrev pub app_of : Application → AppState
app_of a = record { parts = a.parts.items; flying = a.flying.items }
