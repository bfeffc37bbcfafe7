-- Room in a coordinator's logs, by its rings.
use Rattle.std.proofs.Common.{◌≡◌, ℕ, ◌+◌, ◌*◌, ◌<◌, ◌≤◌, Bool, leb, List, ◌++◌, length, get_or, take, drop, sym, ap, ◌∙◌, subst, arith}
use Rattle.std.specs.List.{list_all}
use Rattle.std.proofs.ByRecursion.{All-get_or}
use Rattle.std.proofs.lemmas.List.{take-append-drop, reverse-reverse}
use Rattle.ring.specs.declared.Ring.{Ring}
use Rattle.ring.specs.Contents as ring
use Rattle.ring.specs.Rings.{block}
use Rattle.ring.proofs.Rings.{block-end, length-block}
use Rattle.protocol.specs.declared.plan.Plan.{Plan}
use Rattle.protocol.specs.declared.record.Record.{Record}
use Rattle.protocol.specs.declared.record.Reply.{Reply}
use Rattle.protocol.specs.Plan.{machine_list}
use Rattle.protocol.specs.Record.{Note, empty_log, records}
use Rattle.protocol.specs.Coordinator as protocol
use Rattle.protocol.specs.Coordinator.{log}
use Rattle.protocol.specs.Room.{with_trim, kept, is_roomy}
use Rattle.protocol.specs.Commit.{begin}
use Rattle.protocol.proofs.Counting.{all_same}
use Rattle.protocol.proofs.Places.{begun-todo}
use Rattle.handling.specs.Notes.{notes}
use Rattle.handling.specs.Sending.{wanted}
use Rattle.directory.specs.declared.tables.Coordinator.{Coordinator}
use Rattle.directory.specs.View.{own, log_of, reads_of, writes_of}
use Rattle.directory.specs.Sound.{Rings}
use Rattle.ring.specs.Contents.{empty_ring}
use Rattle.directory.specs.Commits.{notes_at, roomy_at}
use Rattle.directory.proofs.Rows.{row-entry}

-- the records of a log are the notes of its ring
pub log-records : (r : Ring) (slots : List Record) → records (log_of r slots) ≡ notes r slots
log-records r slots =
    ap (λ (ns : List Note). ns ++ drop r.cursor (notes r slots)) (reverse-reverse (take r.cursor (notes r slots)))
    ∙ take-append-drop r.cursor (notes r slots)

module _ (p : Plan) (c : ℕ) (co : Coordinator) (rs : List Record) (few : p.machines ≤ 5) (a : c < p.coordinators) (enough : p.coordinators * p.machines * p.capacity ≤ length rs) where
  module _ (m : ℕ) (b : m < p.machines) where
    abbrev place : ℕ
    place = c * p.machines + m

    abbrev here : Ring
    here = get_or co.logs m empty_ring

    pub room-end : place * p.capacity + p.capacity ≤ length rs
    room-end = block-end p.coordinators p.machines p.capacity (length rs) c m enough a b

    abbrev Tells : ℕ → Bool → List Record → Type 0
    Tells n r part = ring.Sound here (length part) → r ≡ leb (length (notes here part) + with_trim n (notes here part)) p.capacity

    -- what a log over those slots tells, with the number that the commit writes there
    pub roomy-told : (part : List Record) → part ≡ block p.capacity place rs → (n : ℕ) (r : Bool) → n ≡ wanted p (writes_of co.work) m → Tells n r part → Rings p co → r ≡ roomy_at p c co rs m
    roomy-told part is n r wants told s =
        let long : length part ≡ p.capacity = ap length is ∙ length-block rs p.capacity place room-end in
        told (subst (ring.Sound here) (sym long) (All-get_or (λ z. ring.Sound z p.capacity) co.logs m empty_ring (omega (arith, s.five_logs, few, b)) s.logs))
        ∙ ap (λ (k : ℕ). leb (length (notes here part) + with_trim k (notes here part)) p.capacity) wants
        ∙ ap (λ (xs : List Record). leb (length (notes here xs) + with_trim (wanted p (writes_of co.work) m) (notes here xs)) p.capacity) is

  -- the protocol's room is that of the rings
  module _ (qs : List Reply) where
    abbrev mine : protocol.Coordinator
    mine = own p rs qs c co

    all-records : (m : ℕ) → m < p.machines → Rings p co → records (log mine m) ≡ notes_at p c co rs m
    unfolding own
    all-records m b s =
        ap records (row-entry log_of p.capacity p.machines c rs co.logs empty_log m b (omega (arith, s.five_logs, few, b)))
        ∙ log-records (get_or co.logs m empty_ring) (block p.capacity (c * p.machines + m) rs)

    same-room : (m : ℕ) → m < p.machines → Rings p co → leb (length (records (log (begin p mine) m)) + kept p (begin p mine) m) p.capacity ≡ roomy_at p c co rs m
    unfolding own
    same-room m b s =
        ap (λ (k : ℕ). leb (length (records (log mine m)) + with_trim k (records (log mine m))) p.capacity) (begun-todo p m b (reads_of co.work) (writes_of co.work))
        ∙ ap (λ (ns : List Note). leb (length ns + with_trim (wanted p (writes_of co.work) m) ns) p.capacity) (all-records m b s)

    pub room-is : Rings p co → is_roomy p (begin p mine) ≡ list_all (roomy_at p c co rs) (machine_list p)
    room-is s = all_same _ _ 0 p.machines (λ m l. same-room m (omega arith) s)
