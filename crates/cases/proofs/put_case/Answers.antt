use Rattle.std.proofs.Common.{◌++◌, take, ap}
use Rattle.snapshot.specs.Tables.{Tables}
use Rattle.text.specs.Text.{ascii}
use Rattle.text.specs.TextLaws.{puts_as}
use Rattle.cases.specs.Cases.{found, finding_line}
use Rattle.cases.proofs.put_case.Goals as goal

pub returns : goal.returns
returns c =
    let p = c.put_line.ensures.puts in
    let a = c.args in
    let cut = λ (t : Tables). a.name.now ++ ascii " " ++ finding_line (found a.input.now (record t { rows = record t.rows { peer = take a.peers t.rows.peer } })) in
    record { puts = puts_as p.puts (ap cut c.new-arrays.ensures); short = p.short }
