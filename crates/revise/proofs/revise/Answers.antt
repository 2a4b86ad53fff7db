-- Each way out is a law of ReviseLaws.antt.
use Rattle.std.proofs.Common.{◌≡◌, Err, rules}
use Rattle.wire.specs.NumbersLaws.{slice_bytes}
use Rattle.snapshot.specs.Lent.{owned_tables}
use Rattle.snapshot.proofs.TablesLaws.{zeros_have_room}
use Rattle.revise.specs.declared.RevisionError.TheVariants as of
use Rattle.revise.specs.ReviseLaws.{Blamed, blamed_err, blamed_ok, revises_short, ends_unread, ends_refused, ends_written}
use Rattle.revise.proofs.revise.Goals as goal

pub returns-then-out-snapshot : goal.returns-then-out-snapshot
returns-then-out-snapshot c = revises_short c.args.snapshot.now c.args.policy.now c.args.out.now c.if-out-snapshot.true

pub returns-in_err-counts : goal.returns-in_err-counts
returns-in_err-counts c =
    let blamed : Blamed of.Snapshot c.read_snapshot.result c.map_err.result = search rules in
    let (e, is, q) = blamed_err blamed c.in_err-counts.was in
    let same : c.from_residual.result ≡ Err c.in_err-counts.field-0.0 = search rules in
    let out = c.args.out.now in
    let ends = ends_unread c.args.snapshot.now c.args.policy.now out (owned_tables c.new-arrays.result) c.if-out-snapshot.false (zeros_have_room c.new-arrays.ensures) is c.read_snapshot.ensures.read.0 in
    rw (same, q) ends

pub returns-in_err-map_err : goal.returns-in_err-map_err
returns-in_err-map_err c =
    let read : Blamed of.Snapshot c.read_snapshot.result c.map_err.result = search rules in
    let blamed : Blamed of.Policy c.apply_policy.result c.map_err-2.result = search rules in
    let (e, is, q) = blamed_err blamed c.in_err-map_err.was in
    let same : c.from_residual-in_err-map_err.result ≡ Err c.in_err-map_err.field-0.0 = search rules in
    let bytes = slice_bytes c.args.snapshot.now (λ k. (c.type_inv.snapshot k).fits) in
    let ends = ends_refused c.args.snapshot.now c.args.policy.now c.args.out.now (owned_tables c.new-arrays.result) c.if-out-snapshot.false bytes
    (blamed_ok read c.in_ok-counts.was) c.read_snapshot.ensures.read.0 c.read_snapshot.ensures.read.1 c.apply_policy.result c.from-tables.ensures.0 c.apply_policy.ensures.rewritten is in
    rw (same, q) ends

pub returns-in_err-map_err-2 : goal.returns-in_err-map_err-2
returns-in_err-map_err-2 c =
    let read : Blamed of.Snapshot c.read_snapshot.result c.map_err.result = search rules in
    let rewritten : Blamed of.Policy c.apply_policy.result c.map_err-2.result = search rules in
    let blamed : Blamed of.Policy c.write_snapshot.result c.map_err-3.result = search rules in
    let (e, is, q) = blamed_err blamed c.in_err-map_err-2.was in
    let bytes = slice_bytes c.args.snapshot.now (λ k. (c.type_inv.snapshot k).fits) in
    let rules_bytes = slice_bytes c.args.policy.now (λ k. (c.type_inv.policy k).fits) in
    let ((n, written), ends) = ends_written c.args.snapshot.now c.args.policy.now c.args.out.now (owned_tables c.new-arrays.result) c.if-out-snapshot.false bytes
    (blamed_ok read c.in_ok-counts.was) c.read_snapshot.ensures.read.0 c.read_snapshot.ensures.read.1 c.apply_policy.result c.from-tables.ensures.0 c.apply_policy.ensures.rewritten
    rules_bytes (blamed_ok rewritten c.in_ok-map_err.was) c.view.ensures c.write_snapshot.ensures in
    absurd cc

pub returns : goal.returns
returns c =
    let read : Blamed of.Snapshot c.read_snapshot.result c.map_err.result = search rules in
    let rewritten : Blamed of.Policy c.apply_policy.result c.map_err-2.result = search rules in
    let bytes = slice_bytes c.args.snapshot.now (λ k. (c.type_inv.snapshot k).fits) in
    let rules_bytes = slice_bytes c.args.policy.now (λ k. (c.type_inv.policy k).fits) in
    (ends_written c.args.snapshot.now c.args.policy.now c.args.out.now (owned_tables c.new-arrays.result) c.if-out-snapshot.false bytes
    (blamed_ok read c.in_ok-counts.was) c.read_snapshot.ensures.read.0 c.read_snapshot.ensures.read.1 c.apply_policy.result c.from-tables.ensures.0 c.apply_policy.ensures.rewritten
    rules_bytes (blamed_ok rewritten c.in_ok-map_err.was) c.view.ensures c.write_snapshot.ensures).1
