use Rattle.std.proofs.Common.{arith, ◌≡◌, ℕ, length, take, length-take}
use Rattle.fill.specs.StoresLaws.{ids_end}
use Rattle.fill.proofs.fill_ids.Goals as goal

pub returns : goal.returns
returns c =
    let few = c.requires.0.few in
    let long : length (take c.args.n c.args.ids.now) ≡ c.args.n = omega (arith, c.requires.1, length-take {A = ℕ}) in
    ids_end c.args.input.now c.args.ids.now c.loop-i.invariant (omega arith) (omega (arith, c.requires.1))
