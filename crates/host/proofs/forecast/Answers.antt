use Rattle.std.proofs.Common.{T, sym, ap, ◌∙◌, ◌≡◌, rules, Err}
use Rattle.std.proofs.Math.Pow.{are_bytes}
use Rattle.scan.specs.ScanLaws.{said_is}
use Rattle.wire.specs.NumbersLaws.{slice_bytes}
use Rattle.host.specs.Host.{code, room}
use Rattle.host.specs.HostLaws.{answers_as, answers_refused, answers_none, asked}
use Rattle.host.proofs.forecast.Goals as goal

pub returns-then-area-lt-AREA_BYTES : goal.returns-then-area-lt-AREA_BYTES
returns-then-area-lt-AREA_BYTES c = room c.if-area-lt-AREA_BYTES.true

pub returns-in_err-counts : goal.returns-in_err-counts
returns-in_err-counts c =
    let same : c.from_residual.result ≡ Err c.in_err-counts.field-0.0 = search rules in
    answers_as (ap code same) (answers_refused c.if-area-lt-AREA_BYTES.false (sym c.in_err-counts.was ∙ said_is c.args.snapshot.now c.judge.ensures))

pub returns-then-counts-prefix : goal.returns-then-counts-prefix
returns-then-counts-prefix c =
    answers_none c.if-area-lt-AREA_BYTES.false (sym c.in_ok-counts.was ∙ said_is c.args.snapshot.now c.judge.ensures) c.if-counts-prefix.true

pub answer-requires : goal.answer-requires
answer-requires c =
    let bytes : T (are_bytes c.args.snapshot.now) = slice_bytes c.args.snapshot.now (λ k. (c.type_inv.snapshot k).fits) in
    (asked c.args.snapshot.now bytes (sym c.in_ok-counts.was ∙ said_is c.args.snapshot.now c.judge.ensures) c.if-counts-prefix.false, c.if-area-lt-AREA_BYTES.false)
