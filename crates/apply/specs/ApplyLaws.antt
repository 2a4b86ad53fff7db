-- The ways out of applying a policy, each with what it answers and leaves.
use Rattle.std.specs.Prelude.{ℕ, ◌≡◌, ◌≤◌, refl, List, [], T}
use Rattle.std.proofs.Common.{arith, sym, ap, ◌∙◌, subst, subst₂, ⊎_elim}
use Rattle.std.proofs.Math.Pow.{are_bytes}
use Rattle.refusal.specs.declared.Refusal.{Refusal}
use Rattle.refusal.specs.declared.Refused.{Refused}
use Rattle.refusal.specs.Numbers.{number_of, refuses, gives}
use Rattle.snapshot.specs.declared.Counts.{Counts}
use Rattle.snapshot.specs.Limits.{most_routes}
use Rattle.snapshot.specs.Ranges.{none}
use Rattle.snapshot.specs.Format.{Snapshot}
use Rattle.snapshot.specs.Reading.{AnswerOf}
use Rattle.snapshot.specs.Tables.{Tables, short, filled, Room}
use Rattle.snapshot.proofs.TablesLaws.{has_room}
use Rattle.tables.specs.Judging.{Holding, Verdicts}
use Rattle.tables.specs.PartsLaws.{holding_parts}
use Rattle.tables.specs.Theorems.{verdict_refused}
use Rattle.policy.specs.Policy.{Session, Policy}
use Rattle.policy.specs.Reading.{reading}
use Rattle.policy.specs.Rewriting.{rewritten, with_rows}
use Rattle.policy.proofs.Theorems.{accepts}
use Rattle.clauses.specs.Walking.{sessions_from}
use Rattle.clauses.specs.Theorems.{walked}
use Rattle.passes.specs.Passes.{prefix_field, applied, Lent}
use Rattle.passes.specs.PassesLaws.{long_has, passes_all}
use Rattle.passes.specs.RewrittenLaws.{passes_fill}
use Rattle.sessions.specs.Sessions.{said_of}
use Rattle.sessions.specs.Theorems.{read_accepted, read_refused}
use Rattle.apply.specs.Applying.{left, Applies, room, unheld, read}

module _ (counts : Counts) (t : Tables) (bs : List ℕ) where
  -- refused before the file is looked at
  pub applies_no : (r : Refusal) → Verdicts counts t (number_of r) → Applies counts t bs (refuses r 0) t
  applies_no r given = ⊎_elim
      (λ k. subst (λ (q : Refusal). Applies counts t bs (refuses q 0) t) (sym k.0) (room k.1))
      (λ k. subst (λ (q : Refusal). Applies counts t bs (refuses q 0) t) (sym k.0) (unheld k.1 k.2))
      (verdict_refused given r refl)

  module _ (enough : T (none (short t))) (holding : Holding counts t) where
    abbrev s : Snapshot
    s = holding.snapshot

    -- the file is refused
    pub applies_refused : (e : Refused) → refuses e.refusal e.place ≡ said_of (reading bs) → Applies counts t bs (refuses e.refusal e.place) t
    applies_refused e is =
        subst (λ (a : AnswerOf Policy). Applies counts t bs (said_of a) (left a s t)) (read_refused (reading bs) e.refusal e.place is)
        (read enough s holding.valid holding.held)

    -- what the passes are lent
    pub applies_lent : Lent counts.prefixes counts.routes t
    applies_lent =
        let has : Room t = has_room t enough in
        let parts = holding_parts has holding in
        let most = parts.range.routes in
        let rows = has.prefixes.rows in
        record {
          few = parts.range.prefixes;
          addresses = has.prefixes.address;
          lengths = has.prefixes.bits;
          counted = has.prefixes.routes;
          total = sym parts.prefixes.1;
          columns = record {
            router = omega (arith, rows.router);
            asn = omega (arith, rows.asn);
            preference = omega (arith, rows.preference);
            path = omega (arith, rows.path);
            mark = omega (arith, rows.mark);
            med = omega (arith, rows.med);
            peer = omega (arith, rows.peer);
          };
        }

    pub applies_few : counts.routes ≤ most_routes
    applies_few = (holding_parts (has_room t enough) holding).range.routes

    -- it is accepted, and the passes are done
    pub applies_done : T (are_bytes bs) → gives [] ≡ said_of (reading bs) → {u : Tables}
        → u ≡ with_rows t (applied (sessions_from bs 0) (prefix_field t.address t.routes counts.prefixes) (prefix_field t.bits t.routes counts.prefixes) counts.routes t.rows)
        → Applies counts t bs (gives []) u
    applies_done bytes is {u} p =
        let (policy, read_is) = read_accepted (reading bs) is in
        let (written, good) = (accepts bs policy bytes).0 read_is in
        let walk : sessions_from bs 0 ≡ policy = ap (λ (l : List ℕ). sessions_from l 0) written ∙ walked policy good in
        let address : ℕ → ℕ = prefix_field t.address t.routes counts.prefixes in
        let bits : ℕ → ℕ = prefix_field t.bits t.routes counts.prefixes in
        let whole : applied (sessions_from bs 0) address bits counts.routes t.rows ≡ _ =
        ap (λ (ss : List Session). applied ss address bits counts.routes t.rows) walk ∙ passes_all address bits counts.routes policy t.rows (long_has applies_lent.columns) in
        let fills : u ≡ filled (rewritten policy s) t = p ∙ ap (with_rows t) whole ∙ passes_fill policy good (has_room t enough) holding.valid holding.held in
        subst₂ (λ (a : AnswerOf Policy) (v : Tables). Applies counts t bs (said_of a) v) read_is (ap (λ (a : AnswerOf Policy). left a s t) read_is ∙ sym fills)
        (read enough s holding.valid holding.held)
