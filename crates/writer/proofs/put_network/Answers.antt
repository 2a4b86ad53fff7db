-- One section after the other. Assumes nothing.
use Rattle.std.proofs.Common.{refl, [], ◌∷◌}
use Rattle.snapshot.specs.Records.{count_form, written}
use Rattle.records.specs.PuttingLaws.{puts_append}
use Rattle.writer.proofs.put_network.Goals as goal

pub returns : goal.returns
returns c = puts_append {xs = written count_form (c.args.n ∷ [])} (record { same = c.put_count.ensures; place = refl }) (puts_append c.put_ids-at.ensures c.put_distances.ensures)
