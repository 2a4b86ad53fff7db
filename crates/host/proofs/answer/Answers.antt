use Rattle.host.specs.HostLaws.{answers_given}
use Rattle.host.proofs.answer.Goals as goal

pub returns : goal.returns
returns c = answers_given c.requires.1 c.forecast-d.ensures c.put_rows.ensures
