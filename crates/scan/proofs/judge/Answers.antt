-- Each section hands on to the next what it knows.
use Rattle.std.proofs.Common.{◌≡◌, sym, ap}
use Rattle.std.proofs.lemmas.Result.{err_from_is_err_and}
use Rattle.cursor.specs.declared.Cursor.{Cursor}
use Rattle.cursor.specs.Steps.{begin}
use Rattle.scan.specs.Scan.{said_of}
use Rattle.scan.specs.ScanLaws.{count_stop, count_next, items_start}
use Rattle.scan.proofs.judge.Goals as goal

-- the first cursor, by what the code's says
first : (c : Cursor) → (c.at ≡ 0) × (c.records ≡ 0) → begin ≡ c
first c (at, records) = λ i. record { at = sym at i; records = sym records i }

pub returns-in_err-c : goal.returns-in_err-c
returns-in_err-c c =
    let p = err_from_is_err_and c.from_residual.result c.from_residual.ensures.1 in
    rw (p.1, p.2) (sym (ap said_of (count_stop c.args.input.now (first c.default.result c.default.ensures) c.in_err-c.ensures)))

pub routers-requires : goal.routers-requires
routers-requires c = count_next c.args.input.now (first c.default.result c.default.ensures) c.in_ok-c.ensures

pub items-requires : goal.items-requires
items-requires c =
    let (routers, (prefixes, (routes, (inside, (address, (bits, (router, peer))))))) = c.default-2.ensures in
    rw (prefixes, routes, inside, address, bits, router, peer) (items_start c.in_ok-c-3.ensures)
