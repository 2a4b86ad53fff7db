-- One part after the other. Assumes nothing.
use Rattle.std.proofs.Common.{arith}
use Rattle.snapshot.specs.Lent.{tables_of}
use Rattle.snapshot.specs.Tables.{Room}
use Rattle.snapshot.proofs.TablesLaws.{has_room}
use Rattle.tables.specs.Judging.{Parts}
use Rattle.tables.specs.PartsLaws.{holding_parts}
use Rattle.tables.specs.JudgeLaws.{few_routers}
use Rattle.writer.specs.WritingLaws.{writes_full, network_space, prefixes_space, end_room, writes_done}
use Rattle.writer.proofs.write_held.Goals as goal

pub returns-then-out-n : goal.returns-then-out-n
returns-then-out-n c = writes_full c.args.counts (tables_of c.args.tables.now) c.args.out.now c.requires.0 c.requires.1 (omega arith)

pub put_network-prefixes-requires : goal.put_network-prefixes-requires
put_network-prefixes-requires c =
    let t = tables_of c.args.tables.now in
    let room : Room t = has_room t c.requires.0 in
    (few_routers (holding_parts room c.requires.1).range, room.ids, room.distances, network_space c.args.counts t c.args.out.now c.requires.0 c.requires.1 (omega arith))

pub put_prefixes-end-requires : goal.put_prefixes-end-requires
put_prefixes-end-requires c =
    let t = tables_of c.args.tables.now in
    let room : Room t = has_room t c.requires.0 in
    let parts : Parts c.args.counts t = holding_parts room c.requires.1 in (
      parts.range.prefixes,
      omega (arith, parts.prefixes.1, parts.range.routes),
      room.prefixes,
      prefixes_space c.args.counts t c.args.out.now c.requires.0 c.requires.1 (omega arith) c.put_network-prefixes.ensures,
    )

pub put_end-requires : goal.put_end-requires
put_end-requires c =
    end_room c.args.counts (tables_of c.args.tables.now) c.args.out.now c.requires.0 c.requires.1 (omega arith) c.put_network-prefixes.ensures c.put_prefixes-end.ensures

pub overflow_add-result : goal.overflow_add-result
overflow_add-result c =
    omega (
      arith,
      (writes_done c.args.counts (tables_of c.args.tables.now) c.args.out.now c.requires.0 c.requires.1 (omega arith)
          c.put_network-prefixes.ensures c.put_prefixes-end.ensures c.put_end.ensures c.record_count-records.ensures).0,
    )

pub returns : goal.returns
returns c =
    (writes_done c.args.counts (tables_of c.args.tables.now) c.args.out.now c.requires.0 c.requires.1 (omega arith)
    c.put_network-prefixes.ensures c.put_prefixes-end.ensures c.put_end.ensures c.record_count-records.ensures).1
