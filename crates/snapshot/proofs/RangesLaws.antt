-- What lists of tests are worth in a proof.
use Rattle.std.specs.Prelude.{ℕ, zero, suc, ◌≡◌, refl, Bool, true, false, not, List, [], ◌∷◌, ◌++◌, get_or, T}
use Rattle.std.proofs.Common.{sym, subst}
use Rattle.snapshot.specs.Ranges.{or_any, any_of, none}

or_any_lem : (bs : List Bool) → or_any true bs ≡ true
or_any_lem [] = refl
or_any_lem (b ∷ bs) = or_any_lem bs

-- none of a list holds where the first does not and none of the others does
pub none_cons : {b : Bool} (bs : List Bool) → b ≡ false → T (none bs) → T (none (b ∷ bs))
none_cons bs e t = subst (λ (b : Bool). T (none (b ∷ bs))) (sym e) t

pub none_split : (b : Bool) (bs : List Bool) → T (none (b ∷ bs)) → (b ≡ false) × T (none bs)
none_split true bs t = absurd (subst (λ (b : Bool). T (not b)) (or_any_lem bs) t)
none_split false bs t = (refl, t)

-- then each of them is false
pub none_at : (bs : List Bool) → T (none bs) → (k : ℕ) → get_or bs k false ≡ false
none_at [] t k = refl
none_at (b ∷ bs) t zero = (none_split b bs t).0
none_at (b ∷ bs) t (suc k) = none_at bs (none_split b bs t).1 k

pub none_any : (bs : List Bool) → any_of bs ≡ false → T (none bs)
none_any bs e = subst (λ (b : Bool). T (not b)) (sym e) tt

-- none of two lists holds, and the other way round
pub none_both : (xs ys : List Bool) → T (none xs) → T (none ys) → T (none (xs ++ ys))
none_both [] ys a b = b
none_both (x ∷ xs) ys a b = let (e, r) = none_split x xs a in none_cons (xs ++ ys) e (none_both xs ys r b)

pub none_each : (xs ys : List Bool) → T (none (xs ++ ys)) → T (none xs) × T (none ys)
none_each [] ys t = (tt, t)
none_each (x ∷ xs) ys t =
    let (e, r) = none_split x (xs ++ ys) t in
    let (p, q) = none_each xs ys r in (none_cons xs e p, q)

-- so some of them may be replaced
pub none_swap : (front mid mid' back : List Bool) → T (none mid') → T (none (front ++ (mid ++ back))) → T (none (front ++ (mid' ++ back)))
none_swap front mid mid' back h t =
    let (f, rest) = none_each front (mid ++ back) t in
    none_both front (mid' ++ back) f (none_both mid' back h (none_each mid back rest).1)
