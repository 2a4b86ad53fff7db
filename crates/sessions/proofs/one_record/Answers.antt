-- Each kind is listed with the bytes of its records; any other must be the end.
use Rattle.std.proofs.Common.{sym, ◌∙◌, rules}
use Rattle.std.proofs.lemmas.Result.{err_from_is_err_and}
use Rattle.sessions.specs.Sessions.{Other}
use Rattle.sessions.specs.SessionsLaws.{session_listed, exact_listed, direct_listed, any_listed, zero_listed, end_said_lem}
use Rattle.sessions.proofs.one_record.Goals as goal

pub entry-requires : goal.entry-requires
entry-requires c = (c.requires, session_listed, sym c.kind_at-kind.ensures ∙ c.in-1.is)

pub entry-requires-in-2 : goal.entry-requires-in-2
entry-requires-in-2 c = (c.requires, exact_listed, sym c.kind_at-kind.ensures ∙ c.in-2.is)

pub entry-requires-in-3 : goal.entry-requires-in-3
entry-requires-in-3 c = (c.requires, direct_listed, sym c.kind_at-kind.ensures ∙ c.in-3.is)

pub entry-requires-in-4 : goal.entry-requires-in-4
entry-requires-in-4 c = (c.requires, any_listed, sym c.kind_at-kind.ensures ∙ c.in-4.is)

pub entry-requires-in-5 : goal.entry-requires-in-5
entry-requires-in-5 c = (c.requires, zero_listed, sym c.kind_at-kind.ensures ∙ c.in-5.is)

pub returns-in_err-ends-in_default : goal.returns-in_err-ends-in_default
returns-in_err-ends-in_default c =
    let p = err_from_is_err_and c.from_residual.result c.from_residual.ensures.1 in
    let other : Other c.kind_at-kind.result = search rules in
    rw (p.1, p.2) (c.in_err-ends-in_default.ensures ∙ end_said_lem c.requires.reads (sym c.kind_at-kind.ensures) other c.body_length.ensures)

pub returns-in_ok-ends-in_default : goal.returns-in_ok-ends-in_default
returns-in_ok-ends-in_default c =
    let other : Other c.kind_at-kind.result = search rules in
    c.in_ok-ends-in_default.ensures ∙ end_said_lem c.requires.reads (sym c.kind_at-kind.ensures) other c.body_length.ensures
