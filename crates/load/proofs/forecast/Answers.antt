-- What is loaded is decided.
use Rattle.std.proofs.Common.{rules}
use Rattle.load.specs.LoadLaws.{loaded_long, loaded_placed, loaded_forecast}
use Rattle.load.proofs.forecast.Goals as goal

pub mesh-requires : goal.mesh-requires
mesh-requires c = loaded_long c.requires.0 (search rules) c.load-rows.ensures.loaded

pub decided-requires : goal.decided-requires
decided-requires c =
    let m = c.mesh.ensures in
    (loaded_placed c.requires.0 (search rules) c.load-rows.ensures.loaded m.ids m.distances m.routes, c.requires.1)

pub returns : goal.returns
returns c =
    let m = c.mesh.ensures in
    loaded_forecast c.requires.0 (search rules) c.load-rows.ensures.loaded m.ids m.distances m.routes c.decided.ensures
