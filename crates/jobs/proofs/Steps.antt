-- Reading a job, step by step. Assumes nothing.
use Rattle.std.proofs.Common.{◌≡◌, ℕ, ◌+◌, ◌*◌, true, false, List, ◌++◌, length, take, drop, Ok, Err, Result, sym, ap, ◌∙◌, subst, append-nil, arith}
use Rattle.tables.specs.Bytes.{Bytes}
use Rattle.tables.specs.Form.{Form}
use Rattle.tables.specs.Parts.{and_then, Reader, after, inside}
use Rattle.saved.specs.declared.fault.PlanFault.{PlanFault}
use Rattle.saved.specs.Plan.{plan_part, plan_bytes, read_plan}
use Rattle.saved.proofs.Plans.{plan_exact}
use Rattle.jobs.specs.declared.fault.JobFault.{JobFault}
use Rattle.jobs.specs.declared.fault.JobFault.TheVariants as J
use Rattle.jobs.specs.declared.head.Mode.{Mode}
use Rattle.jobs.specs.declared.head.Edition.{Edition}
use Rattle.jobs.specs.Form.{JobForm, JobLawful}
use Rattle.jobs.specs.Read.{head_part, joints_part, kinds_part, heights_part, cards_part, same_sizes, struck_part, rest_part, room_part, parts, formed, job_part, read_job}
use Rattle.jobs.proofs.Jobs.{job_exact}
use Rattle.jobs.proofs.Reading.{after_fails, then_fails, then_done, checked_fails, checked_not, checked_done, inside_fails, inside_done, turned_fails, turned_done}

-- ---- a plan's answer, with the place behind it

dropped_err : {X E : Type 0} (r : Result (X × ℕ) E) (e : E) → Err e ≡ and_then {Y = X} r (λ p. Ok p.0) → r ≡ Err e
dropped_err (Ok p) e h = let z : ◌≡◌ {A = ℕ} 0 1 = cc in absurd (omega arith)
dropped_err (Err f) e h = let same : e ≡ f = cc in ap Err (sym same)

dropped_ok : {X E : Type 0} (r : Result (X × ℕ) E) (x : X) → Ok x ≡ and_then {Y = X} r (λ p. Ok p.0) → (next : ℕ) × (r ≡ Ok (x, next))
dropped_ok (Ok p) x h = let same : x ≡ p.0 = cc in (p.1, ap (λ y. Ok (y, p.1)) (sym same))
dropped_ok (Err f) x h = let z : ◌≡◌ {A = ℕ} 0 1 = cc in absurd (omega arith)

-- what stands from there on is the plan's bytes
pub plan_behind : (input : List ℕ) (at : ℕ) (f : Form) → Bytes input → Ok f ≡ read_plan input at → drop at input ≡ plan_bytes f
plan_behind input at f B h =
    let p = dropped_ok (plan_part input at) f h in
    let g = plan_exact.only input at B f p.0 p.1 in
    g.form ∙ ap (λ t. plan_bytes f ++ t) g.follows ∙ append-nil (plan_bytes f)

-- what is read is lawful
pub job_lawful : (input : List ℕ) (j : JobForm) → Bytes input → Ok j ≡ read_job input → JobLawful j
job_lawful input j B h =
    let p = dropped_ok (job_part input 0) j h in
    (job_exact.only input 0 B j p.0 p.1).lawful

-- ---- the cards and the plan, at as many units and bays

abbrev rest : ℕ → ℕ → Reader ((List ℕ × List ℕ) × Form) JobFault
rest units bays = after (cards_part units bays) (λ _. struck_part units bays)

module _ (input : List ℕ) (at units bays : ℕ) where
  pub kinds_fail : (e : JobFault) → Err e ≡ kinds_part units input at → rest units bays input at ≡ Err e
  kinds_fail e h = after_fails (cards_part units bays) (λ _. struck_part units bays) input at (after_fails (kinds_part units) (λ _. heights_part bays) input at (sym h))

  module _ (kinds : List ℕ) (k : Ok (kinds, at + units) ≡ kinds_part units input at) where
    pub heights_fail : (e : JobFault) → Err e ≡ heights_part bays input (at + units) → rest units bays input at ≡ Err e
    heights_fail e h = after_fails (cards_part units bays) (λ _. struck_part units bays) input at (then_fails (kinds_part units) (λ _. heights_part bays) input at (sym k) (sym h))

    module _ (heights : List ℕ) (h : Ok (heights, at + units + 2 * bays) ≡ heights_part bays input (at + units)) where
      cards : cards_part units bays input at ≡ Ok ((kinds, heights), at + units + 2 * bays)
      cards = then_done (kinds_part units) (λ _. heights_part bays) input at (sym k) (sym h)

      pub plan_fails : (e : PlanFault) → Err e ≡ read_plan input (at + units + 2 * bays) → rest units bays input at ≡ Err (J.Plan e)
      plan_fails e p =
          then_fails (cards_part units bays) (λ _. struck_part units bays) input at cards
          (checked_fails (inside plan_part J.Plan) input (at + units + 2 * bays) (same_sizes units bays) (λ at. J.Unequal (at + 1))
          (inside_fails plan_part input (at + units + 2 * bays) J.Plan (dropped_err (plan_part input (at + units + 2 * bays)) e p)))

      module _ (f : Form) (p : Ok f ≡ read_plan input (at + units + 2 * bays)) where
        pub sizes_fail : same_sizes units bays f ≡ false → rest units bays input at ≡ Err (J.Unequal (at + units + 2 * bays + 1))
        sizes_fail s =
            then_fails (cards_part units bays) (λ _. struck_part units bays) input at cards
            (checked_not (inside plan_part J.Plan) input (at + units + 2 * bays) (same_sizes units bays) (λ at. J.Unequal (at + 1))
            (inside_done plan_part input (at + units + 2 * bays) J.Plan (dropped_ok (plan_part input (at + units + 2 * bays)) f p).1) s)

        pub rest_done : same_sizes units bays f ≡ true → (next : ℕ) × (rest units bays input at ≡ Ok (((kinds, heights), f), next))
        rest_done s =
            let r = dropped_ok (plan_part input (at + units + 2 * bays)) f p in (
              r.0,
              then_done (cards_part units bays) (λ _. struck_part units bays) input at cards
                  (checked_done (inside plan_part J.Plan) input (at + units + 2 * bays) (same_sizes units bays) (λ at. J.Unequal (at + 1))
                  (inside_done plan_part input (at + units + 2 * bays) J.Plan r.1) s),
            )

-- ---- the whole

module _ (input : List ℕ) where
  read_fails : (e : JobFault) → parts input 0 ≡ Err e → Err e ≡ read_job input
  read_fails e h = sym (ap (λ r. and_then {Y = JobForm} r (λ p. Ok p.0)) (turned_fails parts input 0 formed h))

  module _ (head : Mode × Edition) (h : Ok (head, 3) ≡ head_part input 0) where
    tables_fail : (e : JobFault) → after joints_part room_part input 3 ≡ Err e → Err e ≡ read_job input
    tables_fail e t = read_fails e (then_fails head_part (λ _. after joints_part room_part) input 0 (sym h) t)

    module _ (a : Form) (room_at : ℕ) (ha : Ok (a, room_at) ≡ joints_part input 3) where
      pub room_fails : (e : JobFault) → Err e ≡ joints_part input room_at → Err e ≡ read_job input
      room_fails e t = tables_fail e (then_fails joints_part room_part input 3 (sym ha) (after_fails joints_part (rest_part a) input room_at (sym t)))

      module _ (r : Form) (at : ℕ) (hr : Ok (r, at) ≡ joints_part input room_at) (units bays : ℕ) (eu : units ≡ length a.rows) (eb : bays ≡ length r.rows) where
        pub rest_fails : (e : JobFault) → rest units bays input at ≡ Err e → Err e ≡ read_job input
        rest_fails e t =
            let here : rest_part a r input at ≡ Err e =
            subst (λ (n : ℕ). rest (length a.rows) n input at ≡ Err e) eb (subst (λ (m : ℕ). rest m bays input at ≡ Err e) eu t) in
            tables_fail e (then_fails joints_part room_part input 3 (sym ha) (then_fails joints_part (rest_part a) input room_at (sym hr) here))

        job_done : (kinds heights : List ℕ) (f : Form) (next : ℕ) → rest units bays input at ≡ Ok (((take units kinds, take bays heights), f), next)
            → Ok (record { mode = head.0; edition = head.1; arrangement = a; room = r; kinds = take (length a.rows) kinds; heights = take (length r.rows) heights; struck = f }) ≡ read_job input
        job_done kinds heights f next t =
            let here : rest_part a r input at ≡ Ok (((take (length a.rows) kinds, take (length r.rows) heights), f), next) =
            subst (λ (n : ℕ). rest (length a.rows) n input at ≡ Ok (((take (length a.rows) kinds, take n heights), f), next)) eb
            (subst (λ (m : ℕ). rest m bays input at ≡ Ok (((take m kinds, take bays heights), f), next)) eu t) in
            sym (ap (λ r. and_then {Y = JobForm} r (λ p. Ok p.0))
            (turned_done parts input 0 formed
            (then_done head_part (λ _. after joints_part room_part) input 0 (sym h)
            (then_done joints_part room_part input 3 (sym ha)
            (then_done joints_part (rest_part a) input room_at (sym hr) here)))))

        pub job_read :
            (kinds heights : List ℕ) (f : Form) → Ok (take units kinds, at + units) ≡ kinds_part units input at
            → Ok (take bays heights, at + units + 2 * bays) ≡ heights_part bays input (at + units) → Ok f ≡ read_plan input (at + units + 2 * bays)
            → same_sizes units bays f ≡ true
            → Ok (record { mode = head.0; edition = head.1; arrangement = a; room = r; kinds = take (length a.rows) kinds; heights = take (length r.rows) heights; struck = f }) ≡ read_job input
        job_read kinds heights f k h p s = let d = rest_done input at units bays _ k _ h f p s in job_done kinds heights f d.0 d.1
