-- Worked examples of the calls, as one table of equations that the checker computes.
use Rattle.std.specs.Prelude.{◌≡◌, ℕ, ◌-◌, ◌^◌, true, List, [], ◌∷◌, ◌++◌, map, reverse, replicate, Ok, Err, refl}
use Rattle.memory.specs.declared.word.Word.{Word}
use Rattle.memory.specs.Words.{at}
use Rattle.protocol.specs.declared.plan.Plan.{Plan}
use Rattle.protocol.specs.declared.call.Call.{Call}
use Rattle.protocol.specs.declared.call.Call.TheVariants.{Open, Read, Write, Commit, Send, Poll, Take, Check, Trim}
use Rattle.protocol.specs.Call.{Entry, numbers, refusal_number}
use Rattle.protocol.specs.Try.{Try}
use Rattle.protocol.specs.Step.{run, set_up}

-- one region, on machines 0, 1 and 2, with logs of the given capacity
abbrev pub plan_of : ℕ → ℕ → Plan
plan_of capacity start_version =
    record { machines = 3; coordinators = 2; regions = 1; capacity = capacity; start = start_version; first = 1; homes = replicate 8 (record { primary = 0; first = 1; second = 2 }); eight = refl }

abbrev pub plan_a : Plan
plan_a = plan_of 4 7

-- an answer: refusal, two numbers, outcome
abbrev pub row : ℕ → ℕ → ℕ → ℕ → List ℕ
row n a b o = n ∷ a ∷ b ∷ o ∷ []

abbrev pub setup_row : Try ℕ → List ℕ
setup_row (Err n) = row (refusal_number n) 0 0 0
setup_row (Ok a) = row 0 a 0 0

abbrev pub setup_answer : Plan → List ℕ
setup_answer p = setup_row (set_up p true)

-- all answers, the oldest first
abbrev pub answers : Plan → List Call → List (List ℕ)
answers p calls = map (λ e. numbers e.answer) (reverse (run p calls).history)

abbrev pub newest : List Entry → List ℕ
newest [] = []
newest (e ∷ es) = numbers e.answer

abbrev pub last_answer : Plan → List Call → List ℕ
last_answer p calls = newest (run p calls).history

abbrev pub primary_word : Plan → List Call → ℕ → Word
primary_word p calls a = at (run p calls).state.primaries a

-- coordinator c reads the word a, writes v into it, locks it, and takes the reply
abbrev pub lock_one : ℕ → ℕ → ℕ → List Call
lock_one c a v = Open c ∷ Read c a ∷ Write c a v ∷ Commit c ∷ Send c ∷ Poll c 0 ∷ Take c 0 ∷ []

-- and sends the COMMIT-BACKUPs and the COMMIT-PRIMARY
abbrev pub commit_one : ℕ → ℕ → ℕ → List Call
commit_one c a v = lock_one c a v ++ (Send c ∷ Send c ∷ Send c ∷ [])

-- and the primary installs
abbrev pub install_one : ℕ → ℕ → ℕ → List Call
install_one c a v = commit_one c a v ++ (Poll c 0 ∷ [])

-- machine m truncates after one transaction of coordinator c with a backup there
abbrev pub trim_backup : ℕ → ℕ → List Call
trim_backup c m = Trim c m ∷ Poll c m ∷ Poll c m ∷ []

-- coordinator c reads the words 1 and 2, writes one of them and locks it
abbrev pub cross : ℕ → ℕ → List Call
cross c a = Write c a 112 ∷ Commit c ∷ Send c ∷ Poll c 0 ∷ Take c 0 ∷ []

abbrev pub both_locked : List Call
both_locked = (Open 0 ∷ Read 0 1 ∷ Read 0 2 ∷ Open 1 ∷ Read 1 1 ∷ Read 1 2 ∷ []) ++ cross 0 1 ++ cross 1 2

-- coordinator 0 holds the word 5, and coordinator 1, which read the same version, is told no
abbrev pub one_denied : List Call
one_denied = (Open 1 ∷ Read 1 5 ∷ Write 1 5 113 ∷ Commit 1 ∷ Send 1 ∷ []) ++ lock_one 0 5 112 ++ (Poll 1 0 ∷ Take 1 0 ∷ [])

pub record Examples : Type 0 where
  -- a set-up, and one commit of one word from open to install
  pub set_up : setup_answer plan_a ≡ row 0 64 0 0
  pub one_commit :
      answers plan_a (install_one 0 5 112 ++ (Poll 0 0 ∷ []))
      ≡ row 0 0 0 0 ∷ row 0 7 0 0 ∷ row 0 0 0 0 ∷ row 0 1 0 0 ∷ row 0 0 1 0 ∷ row 0 1 1 0
      ∷ row 0 1 0 0 ∷ row 0 1 2 0 ∷ row 0 2 2 0 ∷ row 0 0 3 1 ∷ row 0 3 1 0 ∷ row 11 0 0 0 ∷ []
  pub installed : primary_word plan_a (install_one 0 5 112) 5 ≡ record { version = 8; holder = 0; value = 112 }
  -- limits
  pub capacity_low : setup_answer (plan_of 3 7) ≡ row 1 0 0 0
  pub capacity_least : setup_answer (plan_of 4 7) ≡ row 0 64 0 0
  pub address_last : last_answer plan_a (Open 0 ∷ Read 0 63 ∷ []) ≡ row 0 7 0 0
  pub address_past : last_answer plan_a (Open 0 ∷ Read 0 64 ∷ []) ≡ row 6 0 0 0
  pub version_last : last_answer (plan_of 4 (2 ^ 60 - 1)) (Open 0 ∷ Read 0 5 ∷ Write 0 5 112 ∷ []) ≡ row 9 0 0 0
  pub version_before : last_answer (plan_of 4 (2 ^ 60 - 2)) (Open 0 ∷ Read 0 5 ∷ Write 0 5 112 ∷ []) ≡ row 0 0 0 0
  -- both read 1 and 2, and each locks one: a check of the version alone would commit both
  pub cross_check : last_answer plan_a (both_locked ++ (Check 0 ∷ [])) ≡ row 0 2 0 2
  pub cross_version : primary_word plan_a both_locked 2 ≡ record { version = 7; holder = 2; value = 0 }
  -- a word that its own coordinator still holds from the last transaction fails the check
  pub own_holder : last_answer plan_a (commit_one 0 5 112 ++ (Open 0 ∷ Read 0 5 ∷ Commit 0 ∷ Check 0 ∷ [])) ≡ row 0 5 0 2
  -- room
  pub no_room : last_answer plan_a (install_one 0 5 112 ++ (Open 0 ∷ Read 0 5 ∷ Write 0 5 113 ∷ Commit 0 ∷ [])) ≡ row 10 0 0 0
  pub more_room : last_answer (plan_of 5 7) (install_one 0 5 112 ++ (Open 0 ∷ Read 0 5 ∷ Write 0 5 113 ∷ Commit 0 ∷ [])) ≡ row 0 2 0 0
  -- the ABORT after a failed LOCK frees nothing
  pub denied : last_answer plan_a one_denied ≡ row 0 0 0 2
  pub abort_none : last_answer plan_a (one_denied ++ (Send 1 ∷ Poll 1 0 ∷ [])) ≡ row 0 4 0 0
  pub still_held : primary_word plan_a (one_denied ++ (Send 1 ∷ Poll 1 0 ∷ [])) 5 ≡ record { version = 7; holder = 1; value = 0 }
  -- a newer version reaches the backup first: the older one is not put over it
  pub newer_first : last_answer plan_a (install_one 0 5 112 ++ install_one 1 5 113 ++ trim_backup 1 1) ≡ row 0 5 1 0
  pub older_none : last_answer plan_a (install_one 0 5 112 ++ install_one 1 5 113 ++ trim_backup 1 1 ++ trim_backup 0 1) ≡ row 0 5 0 0
