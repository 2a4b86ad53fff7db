use Rattle.std.proofs.Common.{rules}
use Rattle.policy.specs.Rewriting.{usual}
use Rattle.passes.specs.PassesLaws.{entries_filled}
use Rattle.passes.proofs.set_usual.Goals as goal

pub returns : goal.returns
returns c = entries_filled c.args.rows usual c.args.preference.now c.fill.new.self c.requires (c.fill.ensures.after (λ y k. search rules))
