-- Each part in turn decides. Assumes nothing.
use Rattle.std.proofs.Common.{◌∙◌, sym, subst, true≢false}
use Rattle.snapshot.specs.Lent.{tables_of}
use Rattle.tables.specs.Judging.{Judged}
use Rattle.tables.specs.PartsLaws.{judged_no, judged_last}
use Rattle.tables.proofs.judge.Goals as goal
use Rattle.tables.proofs.judge.Goals.{then-counts_good, else-counts_good, then-ids_good, else-ids_good}

-- where all before them passed, the prefixes decide
pub returns-then-distances_good : goal.returns-then-distances_good
returns-then-distances_good c =
    elim c.if-ids_good.branch [
      | then-ids_good w ↦ elim c.if-counts_good.branch [
        | then-counts_good v ↦ judged_last c.requires (c.counts_good.ensures.yes v.if-counts_good.true) (v.ids_good.ensures.yes (sym v.value-is ∙ w.if-ids_good.true)) (w.distances_good.ensures.yes (sym w.value-is ∙ c.if-distances_good.true)) c.prefixes_good.ensures
        | else-counts_good v ↦ absurd (true≢false (sym w.if-ids_good.true ∙ v.value-is ∙ v.if-counts_good.false))
      ]
      | else-ids_good w ↦ absurd (true≢false (sym c.if-distances_good.true ∙ w.value-is ∙ w.if-ids_good.false))
    ]

-- where one before them did not, there is no snapshot
pub returns-else-distances_good : goal.returns-else-distances_good
returns-else-distances_good c =
    subst (Judged c.args.counts (tables_of c.args.tables.now)) (sym c.if-distances_good.false)
    (judged_no c.requires
    (λ parts. elim c.if-ids_good.branch [
      | then-ids_good w ↦ w.distances_good.ensures.no (sym w.value-is ∙ c.if-distances_good.false) parts.distances
      | else-ids_good w ↦ elim c.if-counts_good.branch [
        | then-counts_good v ↦ v.ids_good.ensures.no (sym v.value-is ∙ w.if-ids_good.false) parts.ids
        | else-counts_good v ↦ c.counts_good.ensures.no v.if-counts_good.false parts.range
      ]
    ]))
