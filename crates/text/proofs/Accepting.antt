-- A step file that a text stands for has a text.
use Rattle.std.proofs.Common.{◌≡◌, ℕ, zero, suc, ◌+◌, ◌-◌, ◌<◌, ◌≤◌, ◌&&◌, Bool, true, false, cond, eqb, ltb, leb, List, [], ◌∷◌, ◌++◌, length, drop, Some, None, Ok, Err, Option, Result, IsOk, sym, refl, ap, ◌∙◌, subst, arith, length-append}
use Rattle.std.specs.List.{AllByRecursion, flat_map}
use Rattle.std.specs.Option.{option_map}
use Rattle.std.specs.Result.{result_map_both}
use Rattle.std.proofs.lemmas.Bool.{and_from, eqb-true, leb-true, le-leb, lt-ltb, le-ltb, ltb-true, cond-true, cond-false}
use Rattle.std.proofs.lemmas.List.{append-nil, append_assoc}
use Rattle.std.proofs.lemmas.List.Concat.{flat_map-append}
use Rattle.std.proofs.lemmas.Nat.{from_be_bytes-to_be_bytes_2, from_be_bytes-to_be_bytes_8}
use Rattle.steps.specs.declared.fault.EntryFault.{EntryFault}
use Rattle.steps.specs.declared.fault.FrameFault.TheVariants.{TooLong, BadVersion}
use Rattle.steps.specs.declared.kind.EntryKind.{EntryKind}
use Rattle.steps.specs.Frames.{Position, at, opened, entry, entry_at, is_whole, passed}
use Rattle.steps.specs.Kinds.{kind_named, kind_number}
use Rattle.steps.specs.Writing.{with_length, written}
use Rattle.steps.proofs.Cutting.{nothing-behind, passed-whole}
use Rattle.steps.proofs.Rereading.{whole-there, end-there, content-there}
use Rattle.text.specs.declared.fault.LineFault.{LineFault}
use Rattle.text.specs.declared.fault.LineFault.TheVariants.{TooBig, FileTooLong}
use Rattle.text.specs.declared.fields.Width.{Width}
use Rattle.text.specs.declared.fields.Width.TheVariants.{One, Two, Eight}
use Rattle.text.specs.Fields.{size, limit, number_at, number_bytes, widths, regions, numbers_in, behind, bytes_of, counted, entry_of}
use Rattle.text.specs.Parsing.{step_read, entry_read, line_read, with_entry, with_line, at_line, with_lines, lines_read}
use Rattle.text.specs.Printing.{entry_line, and_lines, and_others, lines_within, opened_text, text_of}
use Rattle.text.specs.Words.{and_then, numbers_read, words}
use Rattle.text.proofs.Listing.{entry_line-known}
use Rattle.text.proofs.Refilling.{same-regions}

-- ---- the numbers in the bytes of numbers

record There (w : Width) (n : ℕ) (rest : List ℕ) : Type 0 where
  number : number_at w (number_bytes w n ++ rest) ≡ n
  long : size w ≤ length (number_bytes w n ++ rest)
  others : drop (size w) (number_bytes w n ++ rest) ≡ rest

there : (w : Width) (n : ℕ) (rest : List ℕ) → n < limit w → There w n rest
there One n rest h = record { number = refl; long = omega arith; others = refl }
there Two n rest h = record { number = from_be_bytes-to_be_bytes_2 n h; long = omega arith; others = refl }
there Eight n rest h = record { number = from_be_bytes-to_be_bytes_8 n h; long = omega arith; others = refl }

-- bytes behind others, if a test was passed
record Filled (t : Bool) (xs : List ℕ) (r : Result (List ℕ) LineFault) (bs : List ℕ) : Type 0 where
  passed : t ≡ true
  rest : List ℕ
  is : r ≡ Ok rest
  both : bs ≡ xs ++ rest

filled : (t : Bool) (xs : List ℕ) (r : Result (List ℕ) LineFault) (e : LineFault) (bs : List ℕ) → cond t (behind xs r) (Err e) ≡ Ok bs → Filled t xs r bs
filled true xs (Ok rest) e bs h = record { passed = refl; rest = rest; is = refl; both = cc }
filled true xs (Err f) e bs h = let z : ◌≡◌ {A = ℕ} 0 1 = cc in absurd (omega arith)
filled false xs r e bs h = let z : ◌≡◌ {A = ℕ} 0 1 = cc in absurd (omega arith)

numbers-there : (ws : List Width) (ns bs : List ℕ) → bytes_of ws ns ≡ Ok bs → length ns ≡ length ws → numbers_in ws bs ≡ Some ns
numbers-there [] [] bs h c = let nothing : ◌≡◌ {A = List ℕ} bs [] = cc in ap (numbers_in []) nothing
numbers-there [] (n ∷ ns) bs h c = absurd (omega (arith, c))
numbers-there (w ∷ ws) [] bs h c = absurd (omega (arith, c))
numbers-there (w ∷ ws) (n ∷ ns) bs h c =
    let f = filled (ltb n (limit w)) (number_bytes w n) (bytes_of ws ns) TooBig bs h in
    let e = there w n f.rest (ltb-true n (limit w) f.passed) in
    let xs = number_bytes w n ++ f.rest in
    ap (numbers_in (w ∷ ws)) f.both
    ∙ cond-true (leb (size w) (length xs)) _ _ (le-leb _ _ e.long)
    ∙ ap (λ k. option_map (λ ks. k ∷ ks) (numbers_in ws (drop (size w) xs))) e.number
    ∙ ap (λ ys. option_map (λ ks. n ∷ ks) (numbers_in ws ys)) e.others
    ∙ ap (option_map (λ ks. n ∷ ks)) (numbers-there ws ns f.rest f.is (omega (arith, c)))

-- ---- an entry that was read has a line

HasLine : List ℕ → Type 0
HasLine e = (place : ℕ) → IsOk (entry_line place e)

is-ok : {X E : Type 0} (r : Result X E) (x : X) → r ≡ Ok x → IsOk r
is-ok {X = X} {E = E} r x h = subst (λ (q : Result X E). IsOk q) (sym h) refl

passes : (t : Bool) (r : Result (List ℕ) LineFault) (e : LineFault) (bs : List ℕ) → cond t r (Err e) ≡ Ok bs → r ≡ Ok bs
passes true r e bs h = h
passes false r e bs h = let z : ◌≡◌ {A = ℕ} 0 1 = cc in absurd (omega arith)

entry-has-line : (kind : EntryKind) (ns e : List ℕ) → entry_of kind ns ≡ Ok e → HasLine e
unfolding HasLine
entry-has-line kind ns e h place =
    let r = regions kind ns in
    let ws = widths kind r in
    let f = filled (eqb (length ns) (length ws)) (kind_number kind ∷ []) (bytes_of ws ns) _ e (passes (ltb r 256) (counted kind ws ns) TooBig e h) in
    let numbers : numbers_in ws f.rest ≡ Some ns = numbers-there ws ns f.rest f.is (eqb-true (length ns) (length ws) f.passed) in
    let same : regions kind ns ≡ regions kind f.rest = same-regions kind r f.rest ns numbers in
    is-ok (entry_line place e) _ (entry_line-known place e (kind_number kind) f.rest kind ns f.both refl (ap (λ k. numbers_in (widths kind k) f.rest) (sym same) ∙ numbers))

made : (kind : EntryKind) (ns e : List ℕ) (r : Result (List ℕ) LineFault) → entry_of kind ns ≡ r → result_map_both Some (λ f. f) r ≡ Ok (Some e) → HasLine e
made kind ns e (Ok x) h p = let same : x ≡ e = cc in subst HasLine same (entry-has-line kind ns x h)
made kind ns e (Err f) h p = let z : ◌≡◌ {A = ℕ} 0 1 = cc in absurd (omega arith)

numbered : (kind : EntryKind) (e : List ℕ) (r : Result (List ℕ) LineFault) → result_map_both Some (λ f. f) (and_then r (entry_of kind)) ≡ Ok (Some e) → HasLine e
numbered kind e (Ok ns) h = made kind ns e (entry_of kind ns) refl h
numbered kind e (Err f) h = let z : ◌≡◌ {A = ℕ} 0 1 = cc in absurd (omega arith)

named : (o : Option EntryKind) (ws : List (List ℕ)) (e : List ℕ) → result_map_both Some (λ f. f) (step_read o ws) ≡ Ok (Some e) → HasLine e
named None ws e h = let z : ◌≡◌ {A = ℕ} 0 1 = cc in absurd (omega arith)
named (Some kind) ws e h = numbered kind e (numbers_read ws) h

worded : (ws : List (List ℕ)) (e : List ℕ) → entry_read ws ≡ Ok (Some e) → HasLine e
worded [] e h = let z : ◌≡◌ {A = ℕ} 0 1 = cc in absurd (omega arith)
worded (w ∷ ws) e h = named (kind_named w) ws e h

-- ---- a file of entries that have lines

record Good (file : List ℕ) : Type 0 where
  es : List (List ℕ)
  is : file ≡ written es
  each : AllByRecursion (λ e. HasLine e × (length e < 65536)) es
  short : length file ≤ 65536

each-more : (es : List (List ℕ)) (e : List ℕ) → AllByRecursion (λ e. HasLine e × (length e < 65536)) es → HasLine e → length e < 65536 → AllByRecursion (λ e. HasLine e × (length e < 65536)) (es ++ e ∷ [])
each-more [] e h l s = ((l, s), tt)
each-more (x ∷ es) e h l s = (h.0, each-more es e h.1 l s)

one-more : (file e : List ℕ) → Good file → HasLine e → length (file ++ with_length e) ≤ 65536 → Good (file ++ with_length e)
one-more file e g l s =
    let small : length e < 65536 = omega (arith, s, length-append file (with_length e)) in
    record {
      es = g.es ++ e ∷ [];
      is = ap (λ xs. xs ++ with_length e) g.is
          ∙ ap (λ xs. 1 ∷ (flat_map with_length g.es ++ xs)) (sym (append-nil (with_length e)))
          ∙ ap (λ xs. 1 ∷ xs) (sym (flat_map-append with_length g.es (e ∷ [])));
      each = each-more g.es e g.each l small;
      short = s;
    }

added : (file e next : List ℕ) (t : Bool) → Good file → HasLine e → leb (length (file ++ with_length e)) 65536 ≡ t → cond t (Ok (file ++ with_length e)) (Err FileTooLong) ≡ Ok next → Good next
added file e next true g l s h = let same : file ++ with_length e ≡ next = cc in subst Good same (one-more file e g l (leb-true _ 65536 s))
added file e next false g l s h = let z : ◌≡◌ {A = ℕ} 0 1 = cc in absurd (omega arith)

with-line : (file line next : List ℕ) (r : Result (Option (List ℕ)) LineFault) → Good file → line_read line ≡ r → and_then r (with_entry file) ≡ Ok next → Good next
with-line file line next (Err f) g p h = let z : ◌≡◌ {A = ℕ} 0 1 = cc in absurd (omega arith)
with-line file line next (Ok None) g p h = let same : file ≡ next = cc in subst Good same g
with-line file line next (Ok (Some e)) g p h = added file e next (leb (length (file ++ with_length e)) 65536) g (worded (words line) e p) refl h

with-lines : (lines : List (List ℕ)) (n : ℕ) (file bytes : List ℕ) → Good file → with_lines file n lines ≡ Ok bytes → Good bytes
with-lines [] n file bytes g h = let same : file ≡ bytes = cc in subst Good same g
with-lines (line ∷ lines) n file bytes g h =
    by (with_line file line) refl h (λ next good k. with-lines lines (n + 1) next bytes good k)
  where
    by : (r : Result (List ℕ) LineFault) → with_line file line ≡ r → at_line n r (λ next. with_lines next (n + 1) lines) ≡ Ok bytes
        → ((next : List ℕ) → Good next → with_lines next (n + 1) lines ≡ Ok bytes → Good bytes) → Good bytes
    by (Ok next) p k rest = rest next (with-line file line next (line_read line) g refl p) k
    by (Err f) p k rest = let z : ◌≡◌ {A = ℕ} 0 1 = cc in absurd (omega arith)

-- ---- its text

both-ok : (r others : Result (List ℕ) EntryFault) → IsOk r → IsOk others → IsOk (and_lines r others)
both-ok (Ok l) (Ok more) h k = refl
both-ok (Ok l) (Err f) h k = k
both-ok (Err f) others h k = h

all-ok : (n : ℕ) (pre : List ℕ) (es : List (List ℕ)) → AllByRecursion (λ e. HasLine e × (length e < 65536)) es → IsOk (lines_within n (at (pre ++ flat_map with_length es) (length pre)))
unfolding lines_within HasLine
all-ok zero pre es h = refl
all-ok (suc n) pre [] h =
    let p = at (pre ++ []) (length pre) in
    let ended : entry_at p ≡ Ok None = nothing-behind p (omega (arith, length-append pre [])) in
    is-ok _ [] (ap (λ o. and_others o (lines_within n (passed p))) ended)
all-ok (suc n) pre (e ∷ es) h =
    let rest = flat_map with_length es in
    let file = pre ++ (with_length e ++ rest) in
    let p = at file (length pre) in
    let whole = whole-there pre e rest h.0.1 in
    let next : passed p ≡ at ((pre ++ with_length e) ++ rest) (length (pre ++ with_length e)) =
    passed-whole p whole ∙ ap (at file) (end-there pre e rest h.0.1) ∙ ap (λ xs. at xs (length (pre ++ with_length e))) (sym (append_assoc pre (with_length e) rest)) in
    let others : IsOk (lines_within n (passed p)) = subst (λ (q : Position). IsOk (lines_within n q)) (sym next) (all-ok n (pre ++ with_length e) es h.1) in
    let line : IsOk (entry_line (length pre) (entry p).content) = subst (λ xs. IsOk (entry_line (length pre) xs)) (sym (content-there pre e rest h.0.1)) (h.0.0 (length pre)) in
    subst (λ (r : Result (List ℕ) EntryFault). IsOk r)
    (sym (ap (λ o. and_others o (lines_within n (passed p))) (cond-true (is_whole p) (Ok (Some (entry p))) _ whole)))
    (both-ok (entry_line (length pre) (entry p).content) (lines_within n (passed p)) line others)

good-text : (file : List ℕ) → Good file → IsOk (text_of file)
good-text file g =
    let bytes = written g.es in
    let start : opened bytes ≡ Ok (at bytes 1) =
    cond-false (ltb 65536 (length bytes)) (Err TooLong) _ (le-ltb 65536 (length bytes) (omega (arith, g.short, ap length g.is)))
    ∙ cond-true (ltb 0 (length bytes) && eqb 1 1) (Ok (at bytes 1)) (Err BadVersion) (and_from (ltb 0 (length bytes)) (eqb 1 1) (lt-ltb 0 (length bytes) (omega arith)) refl) in
    subst (λ xs. IsOk (text_of xs)) (sym g.is)
    (subst (λ o. IsOk (opened_text o)) (sym start) (all-ok (length bytes - 1) (1 ∷ []) g.es g.each))

pub has-text : (lines : List (List ℕ)) (bytes : List ℕ) → lines_read lines ≡ Ok bytes → IsOk (text_of bytes)
has-text lines bytes h =
    good-text bytes (with-lines lines 1 (1 ∷ []) bytes (record { es = []; is = refl; each = tt; short = omega arith }) h)
