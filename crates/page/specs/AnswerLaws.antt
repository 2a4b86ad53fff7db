-- What a page and an answer tell: the bytes tell their page, numbers and values the answer, and the word `settled` the number 0.
use Rattle.std.specs.Prelude.{ℕ, ◌<◌, ◌≡◌, refl, Bool, true, false, cond, List, [], ◌∷◌, ◌++◌, T, eqb, length, get_or, drop, Result}
use Rattle.std.proofs.Common.{arith, sym, ap, ap₂, subst, ◌∙◌, append_assoc, eqb-true}
use Rattle.std.proofs.Math.Pow.{are_bytes}
use Rattle.std.proofs.lemmas.List.Edits.{sets}
use Rattle.std.proofs.Math.Seq.{drop-append_seam}
use Rattle.refusal.specs.declared.Refusal.{Refusal}
use Rattle.refusal.specs.declared.Refused.{Refused}
use Rattle.refusal.specs.Numbers.{number_of, Said, gives}
use Rattle.refusal.proofs.NumbersLaws.{value, answer_tells}
use Rattle.model.specs.Rows.{span}
use Rattle.model.proofs.RowLaws.{in_span}
use Rattle.model.specs.Stability.{Between}
use Rattle.model.proofs.Theorems.{pair_determined}
use Rattle.snapshot.proofs.ChecksLaws.{refused_not_accepted, accepted_injective}
use Rattle.snapshot.specs.Format.{Snapshot, Valid}
use Rattle.snapshot.specs.Reading.{Answer, refused}
use Rattle.snapshot.specs.Tables.{mesh}
use Rattle.snapshot.proofs.Theorems.{accepts}
use Rattle.tables.specs.Theorems.{sound}
use Rattle.reader.specs.TakenLaws.{one_refused}
use Rattle.text.specs.Text.{ascii, decimal}
use Rattle.lines.specs.Lines.{heading_line, refused_line, dotted, state, prefix_line}
use Rattle.page.specs.Page.{prefix_text, snapshot_text, Pages, unread, given, said, Renders, room, text}
use Rattle.page.specs.RenderLaws.{each_same}

-- ---- answers

-- numbers and values tell the answer
pub said_tells : (a b : Result ℕ Refused) → said a ≡ said b → a ≡ b
said_tells = answer_tells (λ n. n ∷ []) (λ n m e. ap (λ (s : Said). value s 0) e)

-- ---- pages

-- one refusal has one line
one_line : {a : Answer} {r q : Refusal} {at place : ℕ} → a ≡ refused r at → a ≡ refused q place → refused_line (number_of r) at ≡ refused_line (number_of q) place
one_line e f = let (i, j) = one_refused e f in ap₂ (λ (x : Refusal) (y : ℕ). refused_line (number_of x) y) i j

-- the rows of a snapshot's prefixes are determined, and so is their text
one_text : (s : Snapshot) → Valid s → (e l e' l' : ℕ → List ℕ)
    → ((p : ℕ) → p < length s.prefixes → Between (mesh s p) (e p) (l p)) → ((p : ℕ) → p < length s.prefixes → Between (mesh s p) (e' p) (l' p))
    → snapshot_text s e l ≡ snapshot_text s e' l'
one_text s valid e l e' l' b b' =
    ap (λ (x : List ℕ). heading_line (length s.ids) (length s.prefixes) ++ x)
    (each_same (λ p. prefix_text s p (e p) (l p)) (λ p. prefix_text s p (e' p) (l' p)) (span 0 (length s.prefixes))
    (λ p m.
    let below : p < length s.prefixes = omega (arith, in_span 0 (length s.prefixes) m) in
    let pair = pair_determined (mesh s p) (sound valid p below) (e p) (l p) (e' p) (l' p) (b p below) (b' p below) in
    ap₂ (prefix_text s p) pair.0 pair.1))

module _ (bs : List ℕ) (bytes : T (are_bytes bs)) where
  pub one_page : {x y : List ℕ} → Pages bs x → Pages bs y → x ≡ y
  one_page (unread r at f) (unread q place g) = one_line f g
  one_page (unread r at f) (given s g e l b) = absurd (refused_not_accepted (sym f ∙ g))
  one_page (given s g e l b) (unread r at f) = absurd (refused_not_accepted (sym f ∙ g))
  one_page (given s f e l b) (given u g e' l' b') =
      let same = accepted_injective (sym g ∙ f) in
      one_text s ((accepts bs s bytes).0 f).1 e l e' l' b (subst (λ (z : Snapshot). (p : ℕ) → p < length z.prefixes → Between (mesh z p) (e' p) (l' p)) same b')
      ∙ ap (λ (z : Snapshot). snapshot_text z e' l') (sym same)

  pub same_said : {out : List ℕ} {a b : Said} {x y : List ℕ} → Renders bs out a x → Renders bs out b y → (a ≡ b) × (x ≡ y)
  same_said (room h) (room k) = (refl, refl)
  same_said (room h) (text k page p) = absurd (omega arith)
  same_said (text h page p) (room k) = absurd (omega arith)
  same_said {out} (text h page p) (text k other q) =
      let same = one_page p q in
      (ap (λ (x : List ℕ). gives (length x ∷ [])) same, ap (sets out 0) same)

-- ---- settled

-- what follows the same bytes is the same
behind : (xs ys zs : List ℕ) → xs ++ ys ≡ xs ++ zs → ys ≡ zs
behind xs ys zs e = sym (drop-append_seam xs ys) ∙ ap (drop (length xs)) e ∙ drop-append_seam xs zs

-- the second byte of ` settled` is an `s`, that of ` open ` an `o`
settled_yes : (b : Bool) (number : List ℕ) → cond b (ascii " settled") (ascii " open " ++ number) ++ ascii "\n" ≡ ascii " settled" ++ ascii "\n" → b ≡ true
settled_yes true number e = refl
settled_yes false number e = absurd (let z : ◌≡◌ {A = ℕ} 111 115 = ap (λ (x : List ℕ). get_or x 1 0) e in omega arith)

-- so only the number 0 has the line with the word `settled`
pub line_zero : (address bits n : ℕ) → prefix_line address bits n ≡ prefix_line address bits 0 → n ≡ 0
line_zero address bits n e =
    eqb-true n 0 (settled_yes (eqb n 0) (decimal n)
    (behind network (state n ++ end) (state 0 ++ end) (sym (append_assoc network (state n) end) ∙ e ∙ append_assoc network (state 0) end)))
  where
    network : List ℕ
    network = ascii "prefix " ++ dotted address ++ (ascii "/" ++ decimal bits)

    end : List ℕ
    end = ascii "\n"
