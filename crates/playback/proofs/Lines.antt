-- Each text that is a line has one line end.
use Rattle.std.proofs.Common.{◌≡◌, ℕ, zero, suc, ◌+◌, ◌/◌, ◌%◌, Bool, true, false, cond, eqb, ltb, List, [], ◌∷◌, ◌++◌, length, Result, codes, refl, ap, ◌∙◌, arith}
use Rattle.std.specs.Fmt.{digit_glyph, digits_onto, digits, decimal}
use Rattle.std.proofs.lemmas.Bool.{ne_eqb}
use Rattle.std.proofs.lemmas.List.{length-append}
use Rattle.std.proofs.lemmas.List.Elements.{filter-append}
use Rattle.std.specs.List.{filter}
use Rattle.protocol.specs.declared.call.Call.{Call}
use Rattle.protocol.specs.declared.call.Call.TheVariants.{Open, Read, Write, Abandon, Commit, Send, Poll, Take, Check, Trim}
use Rattle.protocol.specs.declared.call.Answer.{Answer}
use Rattle.protocol.specs.declared.call.Refusal.{Refusal}
use Rattle.protocol.specs.Call.{Entry, numbers}
use Rattle.steps.specs.declared.fault.RunFault.{RunFault}
use Rattle.steps.specs.Faults.{Numbers, run_numbers, text}
use Rattle.playback.specs.Names.{name_of}
use Rattle.playback.specs.Rows.{spaced}
use Rattle.playback.specs.Transcript.{line, answer_line, fault_line, call_lines}
use Rattle.playback.specs.Laws.{lines_in}

pub lines-append : (xs ys : List ℕ) → lines_in (xs ++ ys) ≡ lines_in xs + lines_in ys
lines-append xs ys = ap length (filter-append (λ c. eqb c 10) xs ys) ∙ length-append (filter (λ c. eqb c 10) xs) (filter (λ c. eqb c 10) ys)

-- a digit is no line end
glyph-above : (d : ℕ) (below : Bool) → eqb (cond below (48 + d) (87 + d)) 10 ≡ false
glyph-above d true = ne_eqb _ _ (λ e. absurd (omega (arith, e)))
glyph-above d false = ne_eqb _ _ (λ e. absurd (omega (arith, e)))

plain-glyph : (d : ℕ) (acc : List ℕ) → lines_in (digit_glyph false d ∷ acc) ≡ lines_in acc
plain-glyph d acc = ap (λ b. length (cond b (digit_glyph false d ∷ filter (λ c. eqb c 10) acc) (filter (λ c. eqb c 10) acc))) (glyph-above d (ltb d 10))

last-or-more : (b : Bool) (d : ℕ) (acc more : List ℕ) → lines_in more ≡ lines_in (digit_glyph false d ∷ acc)
    → lines_in (cond b (digit_glyph false d ∷ acc) more) ≡ lines_in acc
last-or-more true d acc more e = plain-glyph d acc
last-or-more false d acc more e = e ∙ plain-glyph d acc

plain-digits : (k n : ℕ) (acc : List ℕ) → lines_in (digits_onto k 10 false n acc) ≡ lines_in acc
plain-digits zero n acc = refl
plain-digits (suc k) n acc =
    last-or-more (eqb (n / 10) 0) (n % 10) acc (digits_onto k 10 false (n / 10) (digit_glyph false (n % 10) ∷ acc)) (plain-digits k (n / 10) (digit_glyph false (n % 10) ∷ acc))

plain-decimal : (n : ℕ) → lines_in (decimal n) ≡ 0
unfolding digits
plain-decimal n = plain-digits 64 n []

plain-spaced : (ns : List ℕ) → lines_in (spaced ns) ≡ 0
plain-spaced [] = refl
plain-spaced (n ∷ []) = plain-decimal n
plain-spaced (n ∷ m ∷ ns) =
    lines-append (decimal n) (codes " " ++ spaced (m ∷ ns)) ∙ omega (arith, plain-decimal n, lines-append (codes " ") (spaced (m ∷ ns)), plain-spaced (m ∷ ns))

pub plain-name : (call : Call) → lines_in (name_of call) ≡ 0
plain-name (Open c) = refl
plain-name (Read c a) = refl
plain-name (Write c a v) = refl
plain-name (Abandon c) = refl
plain-name (Commit c) = refl
plain-name (Send c) = refl
plain-name (Poll c m) = refl
plain-name (Take c m) = refl
plain-name (Check c) = refl
plain-name (Trim c m) = refl

one-line : (text : List ℕ) → lines_in text ≡ 0 → lines_in (line text) ≡ 1
one-line text e = lines-append text (codes "\n") ∙ omega (arith, e)

-- a number, and behind a space what has no line end either
plain-behind : (n : ℕ) (cs : List ℕ) → lines_in cs ≡ 0 → lines_in (decimal n ++ (codes " " ++ cs)) ≡ 0
plain-behind n cs e = lines-append (decimal n) (codes " " ++ cs) ∙ omega (arith, plain-decimal n, lines-append (codes " ") cs, e)

pub answer-line : (n : ℕ) (name : List ℕ) (answer : Result Answer Refusal) → lines_in name ≡ 0 → lines_in (answer_line n name answer) ≡ 1
answer-line n name answer e =
    let ns = spaced (numbers answer) in
    one-line (decimal n ++ (codes " " ++ (name ++ (codes " " ++ ns))))
    (plain-behind n (name ++ (codes " " ++ ns)) (lines-append name (codes " " ++ ns) ∙ omega (arith, e, lines-append (codes " ") ns, plain-spaced (numbers answer))))

plain-numbers : (n : Numbers) → lines_in (text n) ≡ 0
plain-numbers n =
    let cause = codes "fault " ++ decimal n.cause in
    let place = cause ++ codes " " ++ decimal n.place in
    let two : lines_in cause ≡ 0 = lines-append (codes "fault ") (decimal n.cause) ∙ omega (arith, plain-decimal n.cause) in
    let four : lines_in place ≡ 0 = lines-append (cause ++ codes " ") (decimal n.place) ∙ omega (arith, two, lines-append cause (codes " "), plain-decimal n.place) in
    lines-append (place ++ codes " ") (decimal n.layer) ∙ omega (arith, four, lines-append place (codes " "), plain-decimal n.layer)

pub fault-line : (f : RunFault) → lines_in (fault_line f) ≡ 1
fault-line f = one-line (text (run_numbers f)) (plain-numbers (run_numbers f))

pub call-lines : (es : List Entry) → lines_in (call_lines es) ≡ length es
call-lines [] = refl
call-lines (e ∷ es) =
    let here = answer-line (suc (length es)) (name_of e.call) e.answer (plain-name e.call) in
    lines-append (call_lines es) (answer_line (suc (length es)) (name_of e.call) e.answer) ∙ omega (arith, call-lines es, here)
