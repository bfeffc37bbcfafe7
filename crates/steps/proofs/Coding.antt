-- A step that was decoded is encoded as its entry, and a step that was encoded is decoded as it was.
use Rattle.std.proofs.Common.{◌≡◌, ℕ, zero, suc, ◌+◌, ◌*◌, ◌<◌, ◌≤◌, Bool, true, false, cond, not, eqb, leb, ◌⊎◌, List, [], ◌∷◌, ◌++◌, map, length, get_or, take, drop, Some, None, Ok, Err, Option, Result, sym, refl, ap, ◌∙◌, subst, inl, inr, arith, length-drop}
use Rattle.std.specs.List.{range_with_len, flat_map, slice_get}
use Rattle.std.specs.Option.{option_map}
use Rattle.std.specs.Int.{w64, from_be_bytes, bytes_high_first}
use Rattle.std.specs.Int.Digits.{AllBelowBase}
use Rattle.std.proofs.lemmas.Nat.{be_bytes_2, be_bytes_8, from_be_bytes-to_be_bytes_2, from_be_bytes-to_be_bytes_8}
use Rattle.std.proofs.lemmas.List.FromFn.{fill_by_all, take-map-range_with_len}
use Rattle.std.proofs.lemmas.List.{get_or-take, get_or-append-add, length-take-le, take-append-drop, drop_more, drop_all}
use Rattle.std.proofs.lemmas.Bool.{cases_lt, eqb-true, eq-eqb, ne_eqb, le-leb, lt-leb, cond-true, cond-false}
use Rattle.protocol.specs.declared.call.Call.{Call}
use Rattle.protocol.specs.declared.call.Call.TheVariants.{Open, Read, Write, Abandon, Commit, Send, Poll, Take, Check, Trim}
use Rattle.protocol.specs.declared.plan.Home.{Home}
use Rattle.protocol.specs.declared.plan.Plan.{Plan}
use Rattle.steps.specs.declared.decode.Step.{Step}
use Rattle.steps.specs.declared.decode.Step.TheVariants.{SetUp, Call as ACall}
use Rattle.steps.specs.declared.fault.EntryFault.{EntryFault}
use Rattle.steps.specs.declared.fault.EntryFault.TheVariants.{WrongLength, OutOfOrder}
use Rattle.steps.specs.Bytes.{two_at, eight_at}
use Rattle.steps.specs.Encoding.{home_bytes, encoded_plan, encoded_call, encoded, KeepsHomes, Encodable, EncodesBack, DecodesBack}
use Rattle.steps.specs.Entries.{blank, regions, home, homes, plan, sized, steps, is_in_order, checked, decoded}
use Rattle.steps.proofs.Numbers.{byte-at}
use Rattle.steps.proofs.Plans.{same-plan}

-- the first bytes of a list, spelled out
front : (n : ℕ) (e : List ℕ) → n ≤ length e → take n e ≡ map (λ i. get_or e i 0) (range_with_len 0 n)
front n e h = fill_by_all (λ i. get_or e i 0) (take n e) n 0 (length-take-le n e h) (λ k l. get_or-take n e k 0 l)

spelled : (n : ℕ) (e : List ℕ) → length e ≡ n → e ≡ map (λ i. get_or e i 0) (range_with_len 0 n)
spelled n e h = fill_by_all (λ i. get_or e i 0) e n 0 h (λ k l. refl)

-- an entry that holds something has the length that it asks for
sized-by : {X Y : Type 0} (e : List ℕ) (n : ℕ) (x : X) (f : X → Y) (y : Y) (b : Bool)
    → eqb (length e) n ≡ b → option_map f (cond b (Some x) None) ≡ Some y → (length e ≡ n) × (y ≡ f x)
sized-by e n x f y true t h = (eqb-true (length e) n t, cc)
sized-by e n x f y false t h = let z : ◌≡◌ {A = ℕ} 0 1 = cc in absurd (omega arith)

sized-some : {X Y : Type 0} (e : List ℕ) (n : ℕ) (x : X) (f : X → Y) (y : Y) → option_map f (sized e n x) ≡ Some y → (length e ≡ n) × (y ≡ f x)
sized-some e n x f y h = sized-by e n x f y (eqb (length e) n) refl h

-- what a row of the kinds says of an entry of its kind
abbrev Row : List ℕ → ℕ → Option Step → Type 0
Row e k o = (s : Step) → o ≡ Some s → get_or e 0 0 ≡ k → KeepsHomes s → encoded s ≡ e

abbrev Rows : List ℕ → ℕ → List (Option Step) → Type 0
Rows e k [] = Unit {0}
Rows e k (o ∷ os) = Row e k o × Rows e (k + 1) os

row_at : (e : List ℕ) (k i : ℕ) (os : List (Option Step)) → Rows e k os → (o : Option Step) → slice_get os i ≡ Some o → Row e (k + i) o
row_at e k i [] r o h = let z : ◌≡◌ {A = ℕ} 0 1 = cc in absurd (omega arith)
row_at e k zero (x ∷ xs) r o h =
    let same : x ≡ o = cc in
    let at : k ≡ k + 0 = omega arith in
    subst (λ (q : Option Step). Row e (k + 0) q) same (subst (λ (j : ℕ). Row e j x) at r.0)
row_at e k (suc i) (x ∷ xs) r o h =
    let at : k + 1 + i ≡ k + suc i = omega arith in
    subst (λ (j : ℕ). Row e j o) at (row_at e (k + 1) i xs r.1 o h)

-- a call's row: its kind, its number of bytes, and the bytes behind the kind
call-row : (e : List ℕ) (n k : ℕ) (c : Call) (rest : List ℕ) → encoded_call c ≡ k ∷ rest → map (λ i. get_or e i 0) (range_with_len 0 n) ≡ get_or e 0 0 ∷ rest
    → Row e k (option_map ACall (sized e n c))
call-row e n k c rest p q s h kind keeps =
    let z = sized-some e n c ACall s h in
    ap encoded z.1 ∙ p ∙ ap (λ x. x ∷ rest) (sym kind) ∙ sym q ∙ sym (spelled n e z.0)

-- the bytes of the regions from r on
region-bytes : (bs : List ℕ) (n r : ℕ) → length bs ≡ 3 * (r + n) → flat_map home_bytes (map (home bs) (range_with_len r n)) ≡ drop (3 * r) bs
region-bytes bs zero r h = sym (drop_all (3 * r) bs (omega (arith, h)))
region-bytes bs (suc n) r h =
    let i = 3 * r in
    let here : home bs r ≡ record { primary = get_or bs i 0; first = get_or bs (i + 1) 0; second = get_or bs (i + 2) 0 } =
    cond-true (leb (i + 3) (length bs)) _ _ (le-leb (i + 3) (length bs) (omega (arith, h))) in
    let third : i + 1 + 1 ≡ i + 2 = omega arith in
    let fourth : i + 1 + 1 + 1 ≡ 3 * (r + 1) = omega arith in
    let rest = flat_map home_bytes (map (home bs) (range_with_len (r + 1) n)) in
    ap (λ (x : Home). home_bytes x ++ rest) here
    ∙ ap (λ (xs : List ℕ). get_or bs i 0 ∷ get_or bs (i + 1) 0 ∷ get_or bs (i + 2) 0 ∷ xs) (region-bytes bs n (r + 1) (omega (arith, h)) ∙ ap (λ j. drop j bs) (sym fourth))
    ∙ ap (λ (j : ℕ). get_or bs i 0 ∷ get_or bs (i + 1) 0 ∷ get_or bs j 0 ∷ drop (i + 1 + 1 + 1) bs) (sym third)
    ∙ ap (λ (xs : List ℕ). get_or bs i 0 ∷ get_or bs (i + 1) 0 ∷ xs) (sym (drop_more bs (i + 1 + 1) 0 (omega (arith, h))))
    ∙ ap (λ (xs : List ℕ). get_or bs i 0 ∷ xs) (sym (drop_more bs (i + 1) 0 (omega (arith, h))))
    ∙ sym (drop_more bs i 0 (omega (arith, h)))

module _ (e : List ℕ) (byte : (i : ℕ) → get_or e i 0 < 256) where
  two : (i : ℕ) → bytes_high_first 2 (two_at e i) ≡ get_or e i 0 ∷ get_or e (i + 1) 0 ∷ []
  two i =
      let bytes = get_or e i 0 ∷ get_or e (i + 1) 0 ∷ [] in
      be_bytes_2 bytes (two_at e i) refl (byte-at bytes (byte i, (byte (i + 1), tt))) refl

  abbrev eight_bytes : ℕ → List ℕ
  eight_bytes i =
      get_or e i 0
      ∷ get_or e (i + 1) 0
      ∷ get_or e (i + 2) 0
      ∷ get_or e (i + 3) 0
      ∷ get_or e (i + 4) 0
      ∷ get_or e (i + 5) 0
      ∷ get_or e (i + 6) 0
      ∷ get_or e (i + 7) 0
      ∷ []

  eight : (i : ℕ) → bytes_high_first 8 (eight_at e i) ≡ eight_bytes i
  eight i =
      let all : AllBelowBase 256 (eight_bytes i) = (byte i, (byte (i + 1), (byte (i + 2), (byte (i + 3), (byte (i + 4), (byte (i + 5), (byte (i + 6), (byte (i + 7), tt)))))))) in
      be_bytes_8 (eight_bytes i) (eight_at e i) refl (byte-at (eight_bytes i) all) refl

  plan-encoded : length e ≡ 21 + 3 * regions e → regions e ≤ 8 → get_or e 0 0 ≡ 0 → encoded_plan (plan e) ≡ e
  unfolding plan
  plan-encoded l small kind =
      let behind = drop 21 e in
      let regions-there : flat_map home_bytes (take (regions e) (homes behind)) ≡ behind =
      ap (flat_map home_bytes) (take-map-range_with_len (home behind) 0 8 (regions e) small) ∙ region-bytes behind (regions e) 0 (omega (arith, l, length-drop 21 e)) in
      ap (λ (xs : List ℕ). 0 ∷ get_or e 1 0 ∷ get_or e 2 0 ∷ get_or e 3 0 ∷ get_or e 4 0 ∷ bytes_high_first 8 (eight_at e 5) ++ (bytes_high_first 8 (eight_at e 13) ++ xs)) regions-there
      ∙ ap (λ (xs : List ℕ). 0 ∷ get_or e 1 0 ∷ get_or e 2 0 ∷ get_or e 3 0 ∷ get_or e 4 0 ∷ xs ++ (bytes_high_first 8 (eight_at e 13) ++ behind)) (eight 5)
      ∙ ap (λ (xs : List ℕ). 0 ∷ get_or e 1 0 ∷ get_or e 2 0 ∷ get_or e 3 0 ∷ get_or e 4 0 ∷ eight_bytes 5 ++ (xs ++ behind)) (eight 13)
      ∙ ap (λ (k : ℕ). k ∷ get_or e 1 0 ∷ get_or e 2 0 ∷ get_or e 3 0 ∷ get_or e 4 0 ∷ eight_bytes 5 ++ (eight_bytes 13 ++ behind)) (sym kind)
      ∙ sym (ap (λ (xs : List ℕ). xs ++ behind) (front 21 e (omega arith)))
      ∙ take-append-drop 21 e

  plan-row : Row e 0 (option_map SetUp (sized e (21 + 3 * regions e) (plan e)))
  unfolding plan
  plan-row s h kind keeps =
      let z = sized-some e (21 + 3 * regions e) (plan e) SetUp s h in
      ap encoded z.1 ∙ plan-encoded z.0 (subst KeepsHomes z.1 keeps) kind

  rows : Rows e 0 (steps e)
  rows =
      let c = get_or e 1 0 in
      let m = get_or e 2 0 in (
        plan-row,
        (
          call-row e 2 1 (Open c) (c ∷ []) refl refl,
          (
            call-row e 4 2 (Read c (two_at e 2)) (c ∷ get_or e 2 0 ∷ get_or e 3 0 ∷ []) (ap (λ (xs : List ℕ). 2 ∷ c ∷ xs) (two 2)) refl,
            (
              call-row e 12 3 (Write c (two_at e 2) (eight_at e 4)) (c ∷ get_or e 2 0 ∷ get_or e 3 0 ∷ eight_bytes 4) (ap (λ (xs : List ℕ). 3 ∷ c ∷ xs ++ bytes_high_first 8 (eight_at e 4)) (two 2) ∙ ap (λ (xs : List ℕ). 3 ∷ c ∷ get_or e 2 0 ∷ get_or e 3 0 ∷ xs) (eight 4)) refl,
              (
                call-row e 2 4 (Abandon c) (c ∷ []) refl refl,
                (
                  call-row e 2 5 (Commit c) (c ∷ []) refl refl,
                  (
                    call-row e 2 6 (Send c) (c ∷ []) refl refl,
                    (
                      call-row e 3 7 (Poll c m) (c ∷ m ∷ []) refl refl,
                      (
                        call-row e 3 8 (Take c m) (c ∷ m ∷ []) refl refl,
                        (call-row e 2 9 (Check c) (c ∷ []) refl refl, (call-row e 3 10 (Trim c m) (c ∷ m ∷ []) refl refl, tt)),
                      ),
                    ),
                  ),
                ),
              ),
            ),
          ),
        ),
      )

-- a decoded step was found among the kinds
checked-ok : (place : ℕ) (o : Option (Option Step)) (s : Step) → checked place o ≡ Ok s → o ≡ Some (Some s)
checked-ok place None s h = cc
checked-ok place (Some None) s h = cc
checked-ok place (Some (Some t)) s h = ordered (is_in_order place t) h
  where
    ordered : (b : Bool) → ◌≡◌ {A = Result Step EntryFault} (cond b (Ok t) (Err (OutOfOrder place))) (Ok s) → ◌≡◌ {A = Option (Option Step)} (Some (Some t)) (Some (Some s))
    ordered true h = cc
    ordered false h = cc

decoded-ok : (place : ℕ) (e : List ℕ) (s : Step) → decoded place e ≡ Ok s → slice_get (steps e) (get_or e 0 0) ≡ Some (Some s)
decoded-ok place e s h = held (eqb (length e) 0) h
  where
    held : (b : Bool) → ◌≡◌ {A = Result Step EntryFault} (cond b (Err (WrongLength place)) (checked place (slice_get (steps e) (get_or e 0 0)))) (Ok s) → slice_get (steps e) (get_or e 0 0) ≡ Some (Some s)
    held true h = cc
    held false h = checked-ok place (slice_get (steps e) (get_or e 0 0)) s h

pub encodes-back : (place : ℕ) (e : List ℕ) (s : Step) → ((i : ℕ) → get_or e i 0 < 256) → decoded place e ≡ Ok s → EncodesBack e s
encodes-back place e s byte h keeps =
    row_at e 0 (get_or e 0 0) (steps e) (rows e byte) (Some s) (decoded-ok place e s h) s refl (omega arith) keeps

-- the bytes of homes, three by three
length-home_bytes : (hs : List Home) → length (flat_map home_bytes hs) ≡ 3 * length hs
length-home_bytes [] = refl
length-home_bytes (h ∷ hs) = omega (arith, length-home_bytes hs)

-- the home of a region among the bytes of homes
pub record HomeThere (bytes : List ℕ) (r : ℕ) (h : Home) : Type 0 where
  pub primary : get_or bytes (3 * r) 0 ≡ h.primary
  pub first : get_or bytes (3 * r + 1) 0 ≡ h.first
  pub second : get_or bytes (3 * r + 2) 0 ≡ h.second

home-there : (hs : List Home) (r : ℕ) → r < length hs → HomeThere (flat_map home_bytes hs) r (get_or hs r blank)
home-there [] r l = absurd (omega arith)
home-there (h ∷ hs) zero l = record { primary = refl; first = refl; second = refl }
home-there (h ∷ hs) (suc r) l =
    let rest = flat_map home_bytes hs in
    let there = home-there hs r (omega arith) in
    let at-primary : 3 * suc r ≡ 3 + 3 * r = omega arith in
    let at_first : 3 * suc r + 1 ≡ 3 + (3 * r + 1) = omega arith in
    let at_second : 3 * suc r + 2 ≡ 3 + (3 * r + 2) = omega arith in
    record {
      primary = ap (λ i. get_or (home_bytes h ++ rest) i 0) at-primary ∙ get_or-append-add (home_bytes h) rest (3 * r) 0 ∙ there.primary;
      first = ap (λ i. get_or (home_bytes h ++ rest) i 0) at_first ∙ get_or-append-add (home_bytes h) rest (3 * r + 1) 0 ∙ there.first;
      second = ap (λ i. get_or (home_bytes h ++ rest) i 0) at_second ∙ get_or-append-add (home_bytes h) rest (3 * r + 2) 0 ∙ there.second;
    }

same_home : (a b c : ℕ) (h : Home) → a ≡ h.primary → b ≡ h.first → c ≡ h.second → ◌≡◌ {A = Home} (record { primary = a; first = b; second = c }) h
same_home a b c h p q r = λ i. record { primary = p i; first = q i; second = r i }

module _ (p : Plan) (fits : Encodable (SetUp p)) where
  abbrev tail : List ℕ
  tail = flat_map home_bytes (take p.regions p.homes)

  length-kept : length (take p.regions p.homes) ≡ p.regions
  length-kept = length-take-le p.regions p.homes (omega (arith, fits.2, p.eight))

  length-tail : length tail ≡ 3 * p.regions
  length-tail = omega (arith, length-home_bytes (take p.regions p.homes), length-kept)

  length-plan : length (encoded_plan p) ≡ 21 + 3 * p.regions
  length-plan = omega (arith, length-tail)

  home-back : (r : ℕ) → r < 8 → home tail r ≡ get_or p.homes r blank
  home-back r l = by (cases_lt r p.regions)
    where
      by : (r < p.regions) ⊎ (p.regions ≤ r) → home tail r ≡ get_or p.homes r blank
      by (inl under) =
          let there = home-there (take p.regions p.homes) r (omega (arith, length-kept)) in
          cond-true (leb (3 * r + 3) (length tail)) _ _ (le-leb (3 * r + 3) (length tail) (omega (arith, under, length-tail)))
          ∙ same_home _ _ _ (get_or (take p.regions p.homes) r blank) there.primary there.first there.second
          ∙ get_or-take p.regions p.homes r blank under
      by (inr past) =
          cond-false (leb (3 * r + 3) (length tail)) _ _ (lt-leb (3 * r + 3) (length tail) (omega (arith, past, length-tail)))
          ∙ sym (fits.3 r past l)

  plan-back : plan (encoded_plan p) ≡ p
  unfolding plan
  plan-back =
      same-plan p.machines p.coordinators p.regions p.capacity _ p.start _ p.first (homes tail) p.homes refl p.eight
      (from_be_bytes-to_be_bytes_8 p.start fits.0) (from_be_bytes-to_be_bytes_8 p.first fits.1)
      (sym (fill_by_all (home tail) p.homes 8 blank p.eight (λ k l. sym (home-back k l))))

  set_up-back : (place : ℕ) → eqb place 1 ≡ true → decoded place (encoded_plan p) ≡ Ok (SetUp p)
  set_up-back place o =
      let e = encoded_plan p in
      let some : eqb (length e) 0 ≡ false = ne_eqb (length e) 0 (λ h. omega (arith, length-plan)) in
      let long : eqb (length e) (21 + 3 * regions e) ≡ true = eq-eqb (length e) (21 + 3 * regions e) length-plan in
      cond-false (eqb (length e) 0) _ _ some
      ∙ ap (λ (b : Bool). checked place (Some (option_map SetUp (cond b (Some (plan e)) None)))) long
      ∙ ap (λ (q : Plan). checked place (Some (Some (SetUp q)))) plan-back
      ∙ cond-true (eqb place 1) _ _ o

call_back : (c : Call) (place : ℕ) → Encodable (ACall c) → not (eqb place 1) ≡ true → decoded place (encoded_call c) ≡ Ok (ACall c)
call_back (Open c) place fits o = cond-true (not (eqb place 1)) _ _ o
call_back (Read c a) place fits o = cond-true (not (eqb place 1)) _ _ o ∙ ap (λ (x : ℕ). Ok (ACall (Read c x))) (from_be_bytes-to_be_bytes_2 a fits)
call_back (Write c a v) place fits o =
    cond-true (not (eqb place 1)) _ _ o
    ∙ ap (λ (x : ℕ). Ok (ACall (Write c x (from_be_bytes w64 (bytes_high_first 8 v))))) (from_be_bytes-to_be_bytes_2 a fits.0)
    ∙ ap (λ (x : ℕ). Ok (ACall (Write c a x))) (from_be_bytes-to_be_bytes_8 v fits.1)
call_back (Abandon c) place fits o = cond-true (not (eqb place 1)) _ _ o
call_back (Commit c) place fits o = cond-true (not (eqb place 1)) _ _ o
call_back (Send c) place fits o = cond-true (not (eqb place 1)) _ _ o
call_back (Poll c m) place fits o = cond-true (not (eqb place 1)) _ _ o
call_back (Take c m) place fits o = cond-true (not (eqb place 1)) _ _ o
call_back (Check c) place fits o = cond-true (not (eqb place 1)) _ _ o
call_back (Trim c m) place fits o = cond-true (not (eqb place 1)) _ _ o

pub decodes-back : (s : Step) → DecodesBack (encoded s) s
decodes-back (SetUp p) place fits o = set_up-back p fits place o
decodes-back (ACall c) place fits o = call_back c place fits o
