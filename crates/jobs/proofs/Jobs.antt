-- Jobs are an exact part. Assumes nothing.
use Rattle.std.proofs.Common.{◌≡◌, ℕ, zero, suc, ◌+◌, ◌*◌, ◌<◌, true, leb, List, [], ◌∷◌, ◌++◌, length, get_or, take, sym, refl, ap, ◌∙◌, arith}
use Rattle.std.proofs.lemmas.List.{take_all}
use Rattle.std.proofs.lemmas.Bool.{and_from, and_parts, eq-eqb, eqb-true, false≢true, leb-true}
use Rattle.sources.specs.Faults.{fault_at}
use Rattle.tables.specs.Bytes.{Bytes, bytes_of, from_bytes}
use Rattle.tables.specs.Form.{Form, Lawful}
use Rattle.tables.specs.Parts.{Anything, Nothing, Exact}
use Rattle.tables.specs.Written.{table_bytes}
use Rattle.tables.proofs.Accepted.{bytes_of_value}
use Rattle.tables.proofs.Parts.{after_exact, checked_exact, inside_exact, some_bytes_exact, turned_exact}
use Rattle.tables.proofs.Tables.{table_exact}
use Rattle.saved.specs.Plan.{PlanLawful, plan_bytes}
use Rattle.saved.proofs.Plans.{plan_exact}
use Rattle.jobs.specs.declared.fault.JobFault.TheVariants as J
use Rattle.jobs.specs.declared.head.Mode.{Mode}
use Rattle.jobs.specs.declared.head.Mode.TheVariants.{Open, Strict}
use Rattle.jobs.specs.declared.head.Edition.{Edition}
use Rattle.jobs.specs.declared.head.Edition.TheVariants.{One, Two}
use Rattle.jobs.specs.Joints.{joint_test}
use Rattle.jobs.specs.Head.{mode_byte, known_mode, mode_of, edition_number, known_edition, edition_of}
use Rattle.jobs.specs.Form.{JobForm, JobLawful, JointsLawful, HeightsLawful, StruckLawful, heights_bytes, heights_of, job_bytes}
use Rattle.jobs.specs.Read.{mode_part, edition_part, head_part, joints_part, heights_part, cards_part, same_sizes, struck_part, rest_part, room_part, Parts, parts, formed, job_part}
use Rattle.jobs.proofs.Joints.{joint_decides}
use Rattle.jobs.proofs.Heights.{byte_below, length_heights_bytes, heights_bytes_below, heights_back, length_heights_of, heights_kept, heights_words}

-- ---- what opens a job

one_byte : (bs : List ℕ) → length bs ≡ 1 → get_or bs 0 0 ∷ [] ≡ bs
one_byte [] l = absurd (omega arith)
one_byte (b ∷ []) l = refl
one_byte (b ∷ c ∷ bs) l = absurd (omega arith)

byte_alone : (b : ℕ) → b < 256 → Bytes (b ∷ [])
byte_alone b h zero = h
byte_alone b h (suc i) = omega arith

abbrev Known : {X : Type 0} → X → Type 0
Known x = Unit {0}

mode_known : (b : ℕ) → known_mode b ≡ true → mode_byte (mode_of b) ≡ b
mode_known zero h = refl
mode_known (suc zero) h = refl
mode_known (suc (suc b)) h = absurd (omega (arith, leb-true (suc (suc b)) 1 h))

mode_exact : Exact Known Anything mode_part (λ m. mode_byte m ∷ [])
mode_exact = turned_exact (λ bs. mode_of (get_or bs 0 0)) (λ m. mode_byte m ∷ []) to from (checked_exact (λ bs. known_mode (get_or bs 0 0)) J.Unknown (some_bytes_exact 1 J.Ended))
  where
    to : (bs : List ℕ) → ((length bs ≡ 1) × Bytes bs) × (known_mode (get_or bs 0 0) ≡ true) → (mode_byte (mode_of (get_or bs 0 0)) ∷ [] ≡ bs) × Known (mode_of (get_or bs 0 0))
    to bs l = (ap (λ b. b ∷ []) (mode_known (get_or bs 0 0) l.1) ∙ one_byte bs l.0.0, tt)

    from : (m : Mode) → Known m → (mode_of (mode_byte m) ≡ m) × (((length (mode_byte m ∷ []) ≡ 1) × Bytes (mode_byte m ∷ [])) × (known_mode (mode_byte m) ≡ true))
    from Open l = (refl, ((refl, byte_alone 0 (omega arith)), refl))
    from Strict l = (refl, ((refl, byte_alone 1 (omega arith)), refl))

edition_known : (n : ℕ) → known_edition n ≡ true → edition_number (edition_of n) ≡ n
edition_known zero h = absurd (false≢true h)
edition_known (suc zero) h = refl
edition_known (suc (suc zero)) h = refl
edition_known (suc (suc (suc n))) h = absurd (omega (arith, leb-true (suc (suc (suc n))) 2 (and_parts (leb 1 (suc (suc (suc n)))) (leb (suc (suc (suc n))) 2) h).1))

edition_exact : Exact Known Anything edition_part (λ e. bytes_of 2 (edition_number e))
unfolding bytes_of
edition_exact = turned_exact (λ bs. edition_of (from_bytes bs)) (λ e. bytes_of 2 (edition_number e)) to from (checked_exact (λ bs. known_edition (from_bytes bs)) J.Unknown (some_bytes_exact 2 J.Ended))
  where
    to : (bs : List ℕ) → ((length bs ≡ 2) × Bytes bs) × (known_edition (from_bytes bs) ≡ true) → (bytes_of 2 (edition_number (edition_of (from_bytes bs))) ≡ bs) × Known (edition_of (from_bytes bs))
    to bs l =
        let all : take 2 bs ≡ bs = take_all 2 bs (omega (arith, l.0.0)) in
        (ap (bytes_of 2) (edition_known (from_bytes bs) l.1 ∙ ap from_bytes (sym all)) ∙ bytes_of_value 2 bs (omega (arith, l.0.0)) l.0.1 ∙ all, tt)

    from : (e : Edition) → Known e → (edition_of (from_bytes (bytes_of 2 (edition_number e))) ≡ e) × (((length (bytes_of 2 (edition_number e)) ≡ 2) × Bytes (bytes_of 2 (edition_number e))) × (known_edition (from_bytes (bytes_of 2 (edition_number e))) ≡ true))
    from One l = (refl, ((refl, byte_below 2 1), refl))
    from Two l = (refl, ((refl, byte_below 2 2), refl))

head_exact : Exact (λ p. Known p.0 × Known p.1) Anything head_part (λ p. (mode_byte p.0 ∷ []) ++ bytes_of 2 (edition_number p.1))
head_exact = after_exact mode_exact (λ _ _. edition_exact)

-- ---- the tables and the cards

abbrev Tested : Form → Type 0
Tested f = Lawful f × (joint_test f ≡ true)

joints_exact : Exact Tested Anything joints_part table_bytes
joints_exact = checked_exact joint_test (λ at. J.Joints (fault_at at)) (inside_exact J.Table table_exact)

abbrev Kinds : ℕ → List ℕ → Type 0
Kinds units kinds = (length kinds ≡ units) × Bytes kinds

heights_exact : (bays : ℕ) → Exact (HeightsLawful bays) Anything (heights_part bays) heights_bytes
heights_exact bays = turned_exact (heights_of bays) heights_bytes
    (λ bs l. (heights_kept bays bs l.0 l.1, record { count = length_heights_of bays bs; words = heights_words bays bs l.0 l.1 }))
    (λ hs l. (heights_back bays hs l, (omega (arith, length_heights_bytes hs, l.count), heights_bytes_below hs)))
    (some_bytes_exact (2 * bays) J.Ended)

abbrev Cards : ℕ → ℕ → List ℕ × List ℕ → Type 0
Cards units bays p = Kinds units p.0 × HeightsLawful bays p.1

cards_exact : (units bays : ℕ) → Exact (Cards units bays) Anything (cards_part units bays) (λ p. p.0 ++ heights_bytes p.1)
cards_exact units bays = after_exact (some_bytes_exact units J.Ended) (λ _ _. heights_exact bays)

-- ---- the plan, and all of it

abbrev Struck : ℕ → ℕ → Form → Type 0
Struck units bays f = PlanLawful f × (same_sizes units bays f ≡ true)

struck_exact : (units bays : ℕ) → Exact (Struck units bays) Nothing (struck_part units bays) plan_bytes
struck_exact units bays = checked_exact (same_sizes units bays) (λ at. J.Unequal (at + 1)) (inside_exact J.Plan plan_exact)

abbrev Rest : Form → Form → (List ℕ × List ℕ) × Form → Type 0
Rest a r p = Cards (length a.rows) (length r.rows) p.0 × Struck (length a.rows) (length r.rows) p.1

abbrev rest_bytes : (List ℕ × List ℕ) × Form → List ℕ
rest_bytes p = (p.0.0 ++ heights_bytes p.0.1) ++ plan_bytes p.1

rest_exact : (a r : Form) → Exact (Rest a r) Nothing (rest_part a r) rest_bytes
rest_exact a r = after_exact (cards_exact (length a.rows) (length r.rows)) (λ _ _. struck_exact (length a.rows) (length r.rows))

abbrev AfterRoom : Form → Form × ((List ℕ × List ℕ) × Form) → Type 0
AfterRoom a p = Tested p.0 × Rest a p.0 p.1

room_exact : (a : Form) → Exact (AfterRoom a) Nothing (room_part a) (λ p. table_bytes p.0 ++ rest_bytes p.1)
room_exact a = after_exact joints_exact (λ r _. rest_exact a r)

abbrev Whole : Parts → Type 0
Whole p = (Known p.0.0 × Known p.0.1) × (Tested p.1.0 × AfterRoom p.1.0 p.1.1)

parts_exact : Exact Whole Nothing parts (λ p. ((mode_byte p.0.0 ∷ []) ++ bytes_of 2 (edition_number p.0.1)) ++ (table_bytes p.1.0 ++ (table_bytes p.1.1.0 ++ rest_bytes p.1.1.1)))
parts_exact = after_exact head_exact (λ _ _. after_exact joints_exact (λ a _. room_exact a))

abbrev unformed : JobForm → Parts
unformed j = ((j.mode, j.edition), (j.arrangement, (j.room, ((j.kinds, j.heights), j.struck))))

sizes_true : (units bays : ℕ) (f : Form) → StruckLawful units bays f → same_sizes units bays f ≡ true
sizes_true units bays f l = and_from _ _ (eq-eqb (length f.rows) units l.units_same) (eq-eqb f.columns bays l.bays_same)

sizes_from : (units bays : ℕ) (f : Form) → Struck units bays f → StruckLawful units bays f
sizes_from units bays f l =
    let s = and_parts _ _ l.1 in
    record { plan = l.0; units_same = eqb-true (length f.rows) units s.0; bays_same = eqb-true f.columns bays s.1 }

tested_from : (f : Form) → Tested f → JointsLawful f
tested_from f l = record { table = l.0; joints = (joint_decides f).0 l.1 }

tested_to : (f : Form) → JointsLawful f → Tested f
tested_to f l = (l.table, (joint_decides f).1 l.joints)

pub job_exact : Exact JobLawful Nothing job_part job_bytes
job_exact = turned_exact formed unformed to from parts_exact
  where
    to : (p : Parts) → Whole p → (unformed (formed p) ≡ p) × JobLawful (formed p)
    to p l = (
      refl,
      record {
        arrangement = tested_from p.1.0 l.1.0;
        room = tested_from p.1.1.0 l.1.1.0;
        kinds = record { count = l.1.1.1.0.0.0; bytes = l.1.1.1.0.0.1 };
        heights = l.1.1.1.0.1;
        struck = sizes_from _ _ p.1.1.1.1 l.1.1.1.1;
      },
    )

    from : (j : JobForm) → JobLawful j → (formed (unformed j) ≡ j) × Whole (unformed j)
    from j l = (
      refl,
      (
        (tt, tt),
        (
          tested_to j.arrangement l.arrangement,
          (
            tested_to j.room l.room,
            (
              ((l.kinds.count, l.kinds.bytes), l.heights),
              (l.struck.plan, sizes_true _ _ j.struck l.struck),
            ),
          ),
        ),
      ),
    )
