-- The record is judged by its opening, then by its values.
use Rattle.std.proofs.Common.{arith, ap₂, subst, sym, Ok}
use Rattle.std.proofs.lemmas.Result.{err_from_is_err_and}
use Rattle.cursor.specs.declared.Cursor.{Cursor}
use Rattle.policy.specs.Policy.{policy_forms}
use Rattle.cursor.specs.StepsLaws.{opened}
use Rattle.sessions.specs.declared.Latest.{Latest}
use Rattle.sessions.specs.Sessions.{astray_of, full_of, Entered}
use Rattle.sessions.specs.SessionsLaws.{entry_opening, entry_values, entry_next, listed_bytes}
use Rattle.sessions.proofs.entry.Goals as goal

pub returns-in_err-opening : goal.returns-in_err-opening
returns-in_err-opening c =
    let p = err_from_is_err_and c.from_residual.result c.from_residual.ensures.1 in
    rw (p.1, p.2) (entry_opening c.requires.0 c.requires.1 c.requires.2 c.in_err-opening.ensures)

pub returns-in_err-faults : goal.returns-in_err-faults
returns-in_err-faults c =
    let p = err_from_is_err_and c.from_residual-in_err-faults.result c.from_residual-in_err-faults.ensures.1 in
    rw (p.1, p.2) (entry_values c.requires.0 c.requires.1 c.requires.2 c.in_ok-opening.ensures c.in_err-faults.ensures)

pub past-requires : goal.past-requires
past-requires c =
    let a = c.args in
    let bytes = listed_bytes c.requires.1 in
    let whole = opened policy_forms a.input.now a.c.at a.kind (astray_of a.kind a.k) (full_of a.kind a.k) c.in_ok-opening.ensures in
    (c.requires.0.reads.low, omega arith, omega arith)

pub returns : goal.returns
returns c =
    subst (λ (t : Cursor × Latest). Entered c.args.input.now c.args.c (Ok t)) (sym (ap₂ {C = Cursor × Latest} (λ (c : Cursor) (k : Latest). (c, k)) c.past.ensures c.next.ensures))
    (entry_next c.requires.0 c.requires.1 c.requires.2 c.in_ok-opening.ensures c.in_ok-faults.ensures)
