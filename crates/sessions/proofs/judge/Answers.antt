-- Before the first record nothing is known.
use Rattle.std.proofs.Common.{◌≡◌, sym, subst}
use Rattle.cursor.specs.Steps.{begin}
use Rattle.cursor.specs.declared.Cursor.{Cursor}
use Rattle.sessions.specs.Sessions.{Known, unread}
use Rattle.sessions.specs.SessionsLaws.{known_start}
use Rattle.sessions.proofs.judge.Goals as goal

pub loop-next-init : goal.loop-next-init
loop-next-init c =
    let (at, records) = c.default-c.ensures in
    let (sessions, (router, (peer, (bare, clauses)))) = c.default.ensures in
    let first : begin ≡ c.default-c.result = λ i. record { at = sym at i; records = sym records i } in
    rw (sessions, router, peer, clauses) (subst (λ (c' : Cursor). Known c.args.input.now c' unread) first (known_start c.args.input.now))
