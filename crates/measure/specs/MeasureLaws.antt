-- The number of a refusal is never 0, so a refusal is told from what is given.
use Rattle.std.specs.Prelude.{ℕ, ◌+◌, ◌≡◌, refl, Bool, cond, Result, Ok, Err, List, [], ◌∷◌, get_or}
use Rattle.std.proofs.Common.{arith, sym, ap, ne_eqb}
use Rattle.refusal.specs.declared.Refusal.{Refusal}
use Rattle.refusal.specs.declared.Refused.{Refused}
use Rattle.refusal.specs.Numbers.{number_of, refuses, gives, said_by}
use Rattle.refusal.proofs.NumbersLaws.{number_range}
use Rattle.snapshot.specs.Tables.{tables, columns}
use Rattle.snapshot.specs.declared.LentTables.{LentTables}
use Rattle.snapshot.specs.Lent.{lent_tables}
use Rattle.passes.specs.declared.RewriteTables.{RewriteTables}
use Rattle.passes.specs.Passes.{rewrite_tables, KeepsRewrite}
use Rattle.measure.specs.Measure.{value_or}

pub refused_number : (k above : ℕ) (r : Refusal) (at : ℕ) → above + number_of r ≡ value_or k above (refuses r at)
refused_number k above r at =
    sym (ap (λ (b : Bool). cond b (get_or (at ∷ []) k 0) (above + number_of r)) (ne_eqb (number_of r) 0 (omega (arith, (number_range r).0))))

-- what stands in tables that were lent to be rewritten, by what stands in the tables that are kept
pub rewritten_in : {a b : RewriteTables} {preference mark med : List ℕ} → KeepsRewrite a b → preference ≡ b.preference.now → mark ≡ b.mark.now → med ≡ b.med.now
    → rewrite_tables b ≡ tables a.ids.now a.distances.now a.address.now a.bits.now a.routes.now
    (columns a.router.now a.asn.now preference a.path.now a.origin.now mark med a.nid.now a.peer.now)
rewritten_in k e f g =
    rw (k.ids, k.distances, k.address, k.bits, k.routes, k.router, k.asn, k.path, k.origin, k.nid, k.peer, e, f, g)

-- and in tables that were lent to be filled
pub lent_in : (b : LentTables) {ids distances address bits routes router asn preference path origin mark med nid peer : List ℕ}
    → ids ≡ b.ids.now → distances ≡ b.distances.now → address ≡ b.address.now → bits ≡ b.bits.now → routes ≡ b.routes.now
    → router ≡ b.router.now → asn ≡ b.asn.now → preference ≡ b.preference.now → path ≡ b.path.now → origin ≡ b.origin.now
    → mark ≡ b.mark.now → med ≡ b.med.now → nid ≡ b.nid.now → peer ≡ b.peer.now
    → tables ids distances address bits routes (columns router asn preference path origin mark med nid peer) ≡ lent_tables b
lent_in b e1 e2 e3 e4 e5 e6 e7 e8 e9 e10 e11 e12 e13 e14 = rw (e1, e2, e3, e4, e5, e6, e7, e8, e9, e10, e11, e12, e13, e14)

-- the number of an answer does not hang on what is given, where that is no refusal
pub number_alone : {A : Type 0} (values : A → List ℕ) (r : Result A Refused) → (said_by (λ _. gives []) r).number ≡ (said_by (λ a. gives (values a)) r).number
number_alone values (Ok a) = refl
number_alone values (Err e) = refl
