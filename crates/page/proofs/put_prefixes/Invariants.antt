use Rattle.std.proofs.Common.{◌≡◌, length}
use Rattle.model.specs.Rows.{start}
use Rattle.snapshot.specs.Lent.{tables_of}
use Rattle.text.specs.TextLaws.{Lined}
use Rattle.page.specs.Page.{widest_block}
use Rattle.page.specs.Lent.{lent_text}
use Rattle.page.proofs.put_prefixes.Given as goal

-- the blocks of the prefixes that were given are put, and the next begins behind their routes
abbrev pub invariant-loop-address : goal.invariant-loop-address
invariant-loop-address l =
    (goal.iterator-loop-address).can_next l.address-iterator × (goal.iterator-loop-address).is_finite l.address-iterator
    × Lined (lent_text l.routers (tables_of l.tables)) widest_block l.fn.sink l.prefixes (length l.yielded) l.sink
    × (l.first ≡ start l.tables.routes.now (length l.yielded))
