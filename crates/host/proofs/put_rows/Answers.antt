use Rattle.std.proofs.Common.{length}
use Rattle.std.proofs.lemmas.List.{length_push}
use Rattle.std.proofs.lemmas.Slice.Zip.{zip_turn}
use Rattle.model.specs.Decision.{none}
use Rattle.text.specs.TextLaws.{lined_next}
use Rattle.host.specs.HostLaws.{router_bytes_lem}
use Rattle.host.proofs.put_rows.Goals as goal

pub loop-first-preserved : goal.loop-first-preserved
loop-first-preserved c =
    let early = c.args.early.now in
    let late = c.args.late.now in
    let t = zip_turn early late c.loop-first.yielded _ _ c.next.new.self _ (cc) (cc) c.loop-first.yielded_by _ c.in-Some.is c.next.ensures.steps in
    rw length_push (lined_next c.loop-first.invariant t.0 (router_bytes_lem early late (length c.loop-first.yielded) (t.2 none) (t.3 none) c.put_router.ensures))
