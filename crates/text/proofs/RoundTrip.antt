-- A text that was written from a step file reads back to its bytes.
use Rattle.std.proofs.Common.{◌≡◌, ℕ, zero, suc, ◌+◌, ◌-◌, ◌≤◌, Bool, true, false, cond, eqb, ltb, leb, List, [], ◌∷◌, ◌++◌, length, take, drop, Some, None, Ok, Err, Option, Result, sym, refl, ap, ◌∙◌, subst, arith, length-take}
use Rattle.std.specs.Int.Digits.{AllBelowBase}
use Rattle.std.specs.List.{slice_get, slice_split}
use Rattle.std.proofs.lemmas.Bool.{le-leb, leb-true, ltb-false, cond-true, cond-false}
use Rattle.std.proofs.lemmas.List.{take_all}
use Rattle.std.proofs.lemmas.List.Splits.{slice_split_at}
use Rattle.steps.specs.declared.fault.EntryFault.{EntryFault}
use Rattle.steps.specs.declared.fault.FrameFault.{FrameFault}
use Rattle.steps.specs.declared.fault.FrameFault.TheVariants.{TooLong, BadVersion, CutShort}
use Rattle.steps.specs.declared.kind.EntryKind.{EntryKind}
use Rattle.steps.specs.Bytes.{two_at}
use Rattle.steps.specs.Frames.{Position, at, opened, end_of, entry, entry_at, is_whole, passed}
use Rattle.steps.specs.Kinds.{kind_name, kind_number, kinds}
use Rattle.steps.specs.Writing.{with_length}
use Rattle.steps.proofs.Cutting.{one_more, passed-whole, opened-begins, opened-at}
use Rattle.text.specs.declared.fault.LineFault.TheVariants.{FileTooLong}
use Rattle.text.specs.Fields.{numbers_in, regions, widths}
use Rattle.text.specs.Parsing.{line_read, with_entry, at_line, with_lines, text_read}
use Rattle.text.specs.Printing.{line, numbers_line, kind_line, entry_line, and_lines, and_others, lines_within, opened_text, text_of}
use Rattle.text.specs.Words.{and_then}
use Rattle.text.proofs.Refilling.{below-drop, entry-back, numbers-back}
use Rattle.text.proofs.Rereading.{body, is-body, line-back, line-is}

-- ---- an entry that has a line

NumberedFrom : ℕ → List EntryKind → Type 0
NumberedFrom i [] = Unit {0}
NumberedFrom i (kind ∷ ks) = (kind_number kind ≡ i) × NumberedFrom (i + 1) ks

numbered-at : (ks : List EntryKind) (i k : ℕ) (kind : EntryKind) → NumberedFrom i ks → slice_get ks k ≡ Some kind → kind_number kind ≡ i + k
unfolding NumberedFrom
numbered-at [] i k kind n h = let z : ◌≡◌ {A = ℕ} 0 1 = cc in absurd (omega arith)
numbered-at (x ∷ ks) i zero kind n h =
    let same : x ≡ kind = cc in
    let here : kind_number kind ≡ i = subst (λ (y : EntryKind). kind_number y ≡ i) same n.0 in omega (arith, here)
numbered-at (x ∷ ks) i (suc k) kind n h = omega (arith, numbered-at ks (i + 1) k kind n.1 h)

kind-at : (k : ℕ) (kind : EntryKind) → slice_get kinds k ≡ Some kind → k ≡ kind_number kind
unfolding NumberedFrom
kind-at k kind h =
    omega (arith, numbered-at kinds 0 k kind (refl, (refl, (refl, (refl, (refl, (refl, (refl, (refl, (refl, (refl, (refl, tt))))))))))) h)

-- an entry of a kind, with the numbers of its fields
record Shown (e l : List ℕ) : Type 0 where
  kind : EntryKind
  fields : List ℕ
  ns : List ℕ
  parts : e ≡ kind_number kind ∷ fields
  numbers : numbers_in (widths kind (regions kind fields)) fields ≡ Some ns
  is : l ≡ line kind ns

numbers-shown : (place k : ℕ) (kind : EntryKind) (fields l : List ℕ) (o : Option (List ℕ)) → k ≡ kind_number kind → numbers_in (widths kind (regions kind fields)) fields ≡ o
    → numbers_line place kind o ≡ Ok l → Shown (k ∷ fields) l
numbers-shown place k kind fields l None h p e = let z : ◌≡◌ {A = ℕ} 0 1 = cc in absurd (omega arith)
numbers-shown place k kind fields l (Some ns) h p e =
    record { kind = kind; fields = fields; ns = ns; parts = ap (λ x. x ∷ fields) h; numbers = p; is = cc }

kind-shown : (place k : ℕ) (fields l : List ℕ) (o : Option EntryKind) → slice_get kinds k ≡ o → kind_line place o fields ≡ Ok l → Shown (k ∷ fields) l
kind-shown place k fields l None h e = let z : ◌≡◌ {A = ℕ} 0 1 = cc in absurd (omega arith)
kind-shown place k fields l (Some kind) h e =
    numbers-shown place k kind fields l (numbers_in (widths kind (regions kind fields)) fields) (kind-at k kind h) refl e

shown : (place : ℕ) (e l : List ℕ) → entry_line place e ≡ Ok l → Shown e l
shown place [] l h = let z : ◌≡◌ {A = ℕ} 0 1 = cc in absurd (omega arith)
shown place (k ∷ fields) l h = kind-shown place k fields l (slice_get kinds k) refl h

-- its line is read as that entry, and is followed by the lines behind it
record Reread (e l : List ℕ) : Type 0 where
  text : List ℕ
  read : line_read text ≡ Ok (Some e)
  splits : (more : List ℕ) → slice_split (λ b. eqb b 10) (l ++ more) ≡ text ∷ slice_split (λ b. eqb b 10) more

reread : (e l : List ℕ) → AllBelowBase 256 e → Shown e l → Reread e l
reread e l u s =
    let below : AllBelowBase 256 (kind_number s.kind ∷ s.fields) = subst (AllBelowBase 256) s.parts u in
    let found = numbers-back (widths s.kind (regions s.kind s.fields)) s.fields s.ns below.1 s.numbers in
    let text = body (kind_name s.kind) s.ns in
    record {
      text = text;
      read = line-back s.kind s.ns e found.fit (entry-back s.kind s.fields s.ns below.1 s.numbers ∙ ap (λ xs. Ok xs) (sym s.parts));
      splits = λ more. ap (λ xs. slice_split (λ b. eqb b 10) (xs ++ more)) s.is
          ∙ ap (slice_split (λ b. eqb b 10)) (line-is s.kind s.ns more)
          ∙ slice_split_at (λ b. eqb b 10) text 10 more (is-body s.kind s.ns found.fit) refl;
    }

-- ---- the lines of a file

one-added : (file e text : List ℕ) (k : ℕ) (lines : List (List ℕ)) → line_read text ≡ Ok (Some e) → length (file ++ with_length e) ≤ 65536
    → with_lines file k (text ∷ lines) ≡ with_lines (file ++ with_length e) (k + 1) lines
one-added file e text k lines read short =
    let next = λ (f : List ℕ). with_lines f (k + 1) lines in
    ap (λ r. at_line k (and_then r (with_entry file)) next) read
    ∙ ap (λ r. at_line k r next) (cond-true (leb (length (file ++ with_length e)) 65536) (Ok (file ++ with_length e)) (Err FileTooLong) (le-leb _ _ short))

-- a line and others
record Parts (r others : Result (List ℕ) EntryFault) (t : List ℕ) : Type 0 where
  first : List ℕ
  more : List ℕ
  line-is : r ≡ Ok first
  more-is : others ≡ Ok more
  both : t ≡ first ++ more

parted : (r others : Result (List ℕ) EntryFault) (t : List ℕ) → and_lines r others ≡ Ok t → Parts r others t
parted (Err f) others t h = let z : ◌≡◌ {A = ℕ} 0 1 = cc in absurd (omega arith)
parted (Ok l) (Err f) t h = let z : ◌≡◌ {A = ℕ} 0 1 = cc in absurd (omega arith)
parted (Ok l) (Ok more) t h = record { first = l; more = more; line-is = refl; more-is = refl; both = cc }

below-take : (n : ℕ) (bs : List ℕ) → AllBelowBase 256 bs → AllBelowBase 256 (take n bs)
below-take zero bs u = tt
below-take (suc n) [] u = tt
below-take (suc n) (b ∷ bs) u = (u.0, below-take n bs u.1)

-- the rest of the text, behind the entries so far, gives the whole file
Whole : Position → ℕ → List ℕ → Type 0
Whole p k t = with_lines (take p.place p.file) k (slice_split (λ b. eqb b 10) t) ≡ Ok p.file

ended : (p : Position) (k : ℕ) (t : List ℕ) → length p.file ≤ p.place → t ≡ [] → Whole p k t
unfolding Whole
ended p k t h e =
    ap (λ xs. with_lines (take p.place p.file) k (slice_split (λ b. eqb b 10) xs)) e ∙ ap (λ xs. Ok xs) (take_all p.place p.file h)

cut-or-ended : (p : Position) (k : ℕ) (t : List ℕ) (others : Result (List ℕ) EntryFault) (at_end : Bool) → leb (length p.file) p.place ≡ at_end
    → and_others (cond at_end (Ok None) (Err (CutShort p.place))) others ≡ Ok t → Whole p k t
cut-or-ended p k t others true e h = ended p k t (leb-true (length p.file) p.place e) cc
cut-or-ended p k t others false e h = let z : ◌≡◌ {A = ℕ} 0 1 = cc in absurd (omega arith)

one-line : (p : Position) (k : ℕ) (t : List ℕ) (others : Result (List ℕ) EntryFault) → AllBelowBase 256 p.file → length p.file ≤ 65536 → end_of p ≤ length p.file
    → and_lines (entry_line p.place (entry p).content) others ≡ Ok t
    → ((more : List ℕ) → others ≡ Ok more → Whole (at p.file (end_of p)) (k + 1) more) → Whole p k t
unfolding Whole
one-line p k t others u short whole h rest =
    let e = (entry p).content in
    let parts = parted (entry_line p.place e) others t h in
    let below : AllBelowBase 256 e = below-take (two_at p.file p.place) (drop (p.place + 2) p.file) (below-drop (p.place + 2) p.file u) in
    let back = reread e parts.first below (shown p.place e parts.first parts.line-is) in
    let longer : take (end_of p) p.file ≡ take p.place p.file ++ with_length e = one_more p.file p.place u (omega (arith, whole)) in
    let fits : length (take p.place p.file ++ with_length e) ≤ 65536 = omega (arith, short, length-take (end_of p) p.file, ap length longer) in
    ap (λ xs. with_lines (take p.place p.file) k (slice_split (λ b. eqb b 10) xs)) parts.both
    ∙ ap (with_lines (take p.place p.file) k) (back.splits parts.more)
    ∙ one-added (take p.place p.file) e back.text k (slice_split (λ b. eqb b 10) parts.more) back.read fits
    ∙ ap (λ xs. with_lines xs (k + 1) (slice_split (λ b. eqb b 10) parts.more)) (sym longer)
    ∙ rest parts.more parts.more-is

one-turn : (n : ℕ) (p : Position) (k : ℕ) (t : List ℕ) (b : Bool) → is_whole p ≡ b → AllBelowBase 256 p.file → length p.file ≤ 65536
    → and_others (entry_at p) (lines_within n (passed p)) ≡ Ok t
    → ((more : List ℕ) → lines_within n (at p.file (end_of p)) ≡ Ok more → Whole (at p.file (end_of p)) (k + 1) more) → Whole p k t
one-turn n p k t true w u short h rest =
    let read : and_others (entry_at p) (lines_within n (passed p)) ≡ and_lines (entry_line p.place (entry p).content) (lines_within n (passed p)) =
    ap (λ o. and_others o (lines_within n (passed p))) (cond-true (is_whole p) (Ok (Some (entry p))) _ w) in
    one-line p k t (lines_within n (passed p)) u short (leb-true (end_of p) (length p.file) w) (sym read ∙ h)
    (λ more e. rest more (ap (lines_within n) (sym (passed-whole p w)) ∙ e))
one-turn n p k t false w u short h rest =
    cut-or-ended p k t (lines_within n (passed p)) (leb (length p.file) p.place) refl
    (ap (λ o. and_others o (lines_within n (passed p))) (sym (cond-false (is_whole p) (Ok (Some (entry p))) (cond (leb (length p.file) p.place) (Ok None) (Err (CutShort p.place))) w)) ∙ h)

back : (n : ℕ) (p : Position) (k : ℕ) (t : List ℕ) → AllBelowBase 256 p.file → length p.file ≤ 65536 → length p.file ≤ p.place + n → lines_within n p ≡ Ok t → Whole p k t
unfolding lines_within
back zero p k t u short enough h = ended p k t (omega (arith, enough)) cc
back (suc n) p k t u short enough h =
    one-turn n p k t (is_whole p) refl u short h (λ more e. back n (at p.file (end_of p)) (k + 1) more u short (omega (arith, enough)) e)

-- ---- a file that was opened

not-too-long : (bytes : List ℕ) (start : Position) (long good : Bool) → ltb 65536 (length bytes) ≡ long
    → ◌≡◌ {A = Result Position FrameFault} (cond long (Err TooLong) (cond good (Ok (at bytes 1)) (Err BadVersion))) (Ok start) → length bytes ≤ 65536
not-too-long bytes start true good e h = let z : ◌≡◌ {A = ℕ} 0 1 = cc in absurd (omega arith)
not-too-long bytes start false good e h = ltb-false 65536 (length bytes) e

opened-back : (bytes t : List ℕ) (o : Result Position FrameFault) → AllBelowBase 256 bytes → opened bytes ≡ o → opened_text o ≡ Ok t → text_read t ≡ Ok bytes
unfolding Whole
opened-back bytes t (Err f) u e h = let z : ◌≡◌ {A = ℕ} 0 1 = cc in absurd (omega arith)
opened-back bytes t (Ok start) u e h =
    let here = opened-at bytes start e in
    let read : lines_within (length bytes - 1) (at bytes 1) ≡ Ok t = ap (λ (p : Position). lines_within (length p.file - p.place) p) (sym here) ∙ h in
    ap (λ xs. with_lines xs 1 (slice_split (λ b. eqb b 10) t)) (sym (opened-begins bytes start e))
    ∙ back (length bytes - 1) (at bytes 1) 1 t u (not-too-long bytes start (ltb 65536 (length bytes)) _ refl e) (omega arith) read

pub reads-back : (bytes t : List ℕ) → AllBelowBase 256 bytes → text_of bytes ≡ Ok t → text_read t ≡ Ok bytes
reads-back bytes t u h = opened-back bytes t (opened bytes) u refl h
