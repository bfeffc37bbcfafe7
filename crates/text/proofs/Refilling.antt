-- Numbers that were found in the fields of an entry give its bytes back.
use Rattle.std.proofs.Common.{◌≡◌, ℕ, zero, suc, ◌*◌, ◌^◌, ◌<◌, ◌≤◌, Bool, true, false, cond, eqb, ltb, leb, List, [], ◌∷◌, ◌++◌, length, get_or, take, drop, replicate, Some, None, Ok, Option, sym, refl, ap, ◌∙◌, subst, arith}
use Rattle.std.specs.Int.{w16, w64, from_be_bytes}
use Rattle.std.specs.Int.Digits.{AllBelowBase}
use Rattle.std.specs.List.{AllByRecursion}
use Rattle.std.specs.Option.{option_map}
use Rattle.std.proofs.lemmas.Bool.{eq-eqb, lt-ltb, leb-true, cond-true}
use Rattle.std.proofs.lemmas.List.{take-append-drop, get_or-drop}
use Rattle.std.proofs.lemmas.Nat.{be_bytes_2, be_bytes_8}
use Rattle.steps.proofs.Numbers.{byte-at}
use Rattle.steps.specs.declared.kind.EntryKind.{EntryKind}
use Rattle.steps.specs.declared.kind.EntryKind.TheVariants.{SetUp, Open, Read, Write, Abandon, Commit, Send, Poll, Take, Check, Trim}
use Rattle.steps.specs.Kinds.{kind_number}
use Rattle.text.specs.declared.fields.Width.{Width}
use Rattle.text.specs.declared.fields.Width.TheVariants.{One, Two, Eight}
use Rattle.text.specs.Fields.{size, limit, number_at, number_bytes, widths, regions, numbers_in, behind, bytes_of, counted, entry_of}

-- ---- a field

abbrev field-back : (w : Width) (bs : List ℕ) → Type 0
field-back w bs = AllBelowBase 256 bs → size w ≤ length bs → (number_bytes w (number_at w bs) ≡ take (size w) bs) × (number_at w bs < limit w)

one-back : (bs : List ℕ) → field-back One bs
one-back [] u h = absurd (omega arith)
one-back (b ∷ bs) u h = (refl, u.0)

two-back : (bs : List ℕ) → field-back Two bs
two-back [] u h = absurd (omega arith)
two-back (a ∷ []) u h = absurd (omega arith)
two-back (a ∷ b ∷ bs) u h =
    let bytes = a ∷ b ∷ [] in
    let p = u.0 in
    let q = u.1.0 in (
      be_bytes_2 bytes (from_be_bytes w16 bytes) refl (byte-at bytes (p, (q, tt))) refl,
      omega arith,
    )

eight-back : (bs : List ℕ) → field-back Eight bs
eight-back [] u h = absurd (omega arith)
eight-back (a ∷ []) u h = absurd (omega arith)
eight-back (a ∷ b ∷ []) u h = absurd (omega arith)
eight-back (a ∷ b ∷ c ∷ []) u h = absurd (omega arith)
eight-back (a ∷ b ∷ c ∷ d ∷ []) u h = absurd (omega arith)
eight-back (a ∷ b ∷ c ∷ d ∷ e ∷ []) u h = absurd (omega arith)
eight-back (a ∷ b ∷ c ∷ d ∷ e ∷ f ∷ []) u h = absurd (omega arith)
eight-back (a ∷ b ∷ c ∷ d ∷ e ∷ f ∷ g ∷ []) u h = absurd (omega arith)
eight-back (a ∷ b ∷ c ∷ d ∷ e ∷ f ∷ g ∷ k ∷ bs) u h =
    let bytes = a ∷ b ∷ c ∷ d ∷ e ∷ f ∷ g ∷ k ∷ [] in
    let p = u.0 in
    let q = u.1.0 in
    let r = u.1.1.0 in
    let s = u.1.1.1.0 in
    let t = u.1.1.1.1.0 in
    let v = u.1.1.1.1.1.0 in
    let w = u.1.1.1.1.1.1.0 in
    let x = u.1.1.1.1.1.1.1.0 in (
      be_bytes_8 bytes (from_be_bytes w64 bytes) refl (byte-at bytes (p, (q, (r, (s, (t, (v, (w, (x, tt))))))))) refl,
      omega arith,
    )

any-back : (w : Width) (bs : List ℕ) → field-back w bs
any-back One bs = one-back bs
any-back Two bs = two-back bs
any-back Eight bs = eight-back bs

limit-fits : (w : Width) (n : ℕ) → n < limit w → n < 2 ^ 64
limit-fits One n h = omega arith
limit-fits Two n h = omega arith
limit-fits Eight n h = h

-- ---- the fields of an entry

-- bytes stay bytes
pub below-drop : (n : ℕ) (bs : List ℕ) → AllBelowBase 256 bs → AllBelowBase 256 (drop n bs)
below-drop zero bs u = u
below-drop (suc n) [] u = tt
below-drop (suc n) (b ∷ bs) u = below-drop n bs u.1

-- numbers that were found in fields: they fit, there is one for each field, and their bytes are those that were given
pub record Back (ws : List Width) (bs ns : List ℕ) : Type 0 where
  pub bytes : bytes_of ws ns ≡ Ok bs
  pub count : length ns ≡ length ws
  pub fit : AllByRecursion (λ n. n < 2 ^ 64) ns

-- the first number, and the others
abbrev Parts : Bool → ℕ → Option (List ℕ) → List ℕ → Type 0
Parts t n o ns = (t ≡ true) × ((rest : List ℕ) × (o ≡ Some rest) × (ns ≡ n ∷ rest))

parted : (t : Bool) (n : ℕ) (o : Option (List ℕ)) (ns : List ℕ) → cond t (option_map (λ xs. n ∷ xs) o) None ≡ Some ns → Parts t n o ns
parted true n (Some rest) ns h = (refl, (rest, refl, cc))
parted true n None ns h = let z : ◌≡◌ {A = ℕ} 0 1 = cc in absurd (omega arith)
parted false n o ns h = let z : ◌≡◌ {A = ℕ} 0 1 = cc in absurd (omega arith)

one-more : (w : Width) (ws : List Width) (bs rest : List ℕ) → AllBelowBase 256 bs → size w ≤ length bs → Back ws (drop (size w) bs) rest → Back (w ∷ ws) bs (number_at w bs ∷ rest)
one-more w ws bs rest u long b =
    let here = any-back w bs u long in
    record {
      bytes = cond-true (ltb (number_at w bs) (limit w)) _ _ (lt-ltb _ _ here.1)
          ∙ ap (behind (number_bytes w (number_at w bs))) b.bytes
          ∙ ap (λ xs. Ok (xs ++ drop (size w) bs)) here.0
          ∙ ap (λ xs. Ok xs) (take-append-drop (size w) bs);
      count = omega (arith, b.count);
      fit = (limit-fits w (number_at w bs) here.1, b.fit);
    }

pub numbers-back : (ws : List Width) (bs ns : List ℕ) → AllBelowBase 256 bs → numbers_in ws bs ≡ Some ns → Back ws bs ns
numbers-back [] [] ns u h =
    let nothing : ◌≡◌ {A = List ℕ} [] ns = cc in subst (Back [] []) nothing (record { bytes = refl; count = refl; fit = tt })
numbers-back [] (b ∷ bs) ns u h = let z : ◌≡◌ {A = ℕ} 0 1 = cc in absurd (omega arith)
numbers-back (w ∷ ws) bs ns u h =
    let p = parted (leb (size w) (length bs)) (number_at w bs) (numbers_in ws (drop (size w) bs)) ns h in
    subst (Back (w ∷ ws) bs) (sym p.1.2)
    (one-more w ws bs p.1.0 u (leb-true (size w) (length bs) p.0) (numbers-back ws (drop (size w) bs) p.1.0 (below-drop (size w) bs u) p.1.1))

-- ---- the regions: the third number is the third byte

third : (ws : List Width) (bs ns : List ℕ) → numbers_in (One ∷ One ∷ One ∷ ws) bs ≡ Some ns → get_or ns 2 0 ≡ get_or bs 2 0
third ws bs ns h =
    let p = parted (leb 1 (length bs)) (get_or bs 0 0) (numbers_in (One ∷ One ∷ ws) (drop 1 bs)) ns h in
    let q = parted (leb 1 (length (drop 1 bs))) (get_or (drop 1 bs) 0 0) (numbers_in (One ∷ ws) (drop 1 (drop 1 bs))) p.1.0 p.1.1 in
    let r = parted (leb 1 (length (drop 1 (drop 1 bs)))) (get_or (drop 1 (drop 1 bs)) 0 0) (numbers_in ws (drop 1 (drop 1 (drop 1 bs)))) q.1.0 q.1.1 in
    ap (λ xs. get_or xs 2 0) p.1.2
    ∙ ap (λ xs. get_or xs 1 0) q.1.2
    ∙ ap (λ xs. get_or xs 0 0) r.1.2
    ∙ get_or-drop 1 (drop 1 bs) 0 0
    ∙ get_or-drop 1 bs 1 0

pub same-regions : (kind : EntryKind) (r : ℕ) (bs ns : List ℕ) → numbers_in (widths kind r) bs ≡ Some ns → regions kind ns ≡ regions kind bs
same-regions SetUp r bs ns h = third (One ∷ Eight ∷ Eight ∷ replicate (3 * r) One) bs ns h
same-regions Open r bs ns h = refl
same-regions Read r bs ns h = refl
same-regions Write r bs ns h = refl
same-regions Abandon r bs ns h = refl
same-regions Commit r bs ns h = refl
same-regions Send r bs ns h = refl
same-regions Poll r bs ns h = refl
same-regions Take r bs ns h = refl
same-regions Check r bs ns h = refl
same-regions Trim r bs ns h = refl

few-regions : (kind : EntryKind) (bs : List ℕ) → AllBelowBase 256 bs → regions kind bs < 256
few-regions SetUp bs u = byte-at bs u 2
few-regions Open bs u = omega arith
few-regions Read bs u = omega arith
few-regions Write bs u = omega arith
few-regions Abandon bs u = omega arith
few-regions Commit bs u = omega arith
few-regions Send bs u = omega arith
few-regions Poll bs u = omega arith
few-regions Take bs u = omega arith
few-regions Check bs u = omega arith
few-regions Trim bs u = omega arith

-- the entry of the numbers in its fields
pub entry-back : (kind : EntryKind) (bs ns : List ℕ) → AllBelowBase 256 bs → numbers_in (widths kind (regions kind bs)) bs ≡ Some ns → entry_of kind ns ≡ Ok (kind_number kind ∷ bs)
entry-back kind bs ns u h =
    let r = regions kind bs in
    let b = numbers-back (widths kind r) bs ns u h in
    let same : regions kind ns ≡ r = same-regions kind r bs ns h in
    cond-true (ltb (regions kind ns) 256) _ _ (lt-ltb _ _ (omega (arith, same, few-regions kind bs u)))
    ∙ ap (λ k. counted kind (widths kind k) ns) same
    ∙ cond-true (eqb (length ns) (length (widths kind r))) _ _ (eq-eqb _ _ b.count)
    ∙ ap (behind (kind_number kind ∷ [])) b.bytes
