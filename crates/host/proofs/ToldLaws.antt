-- The numbers told of an answer by any name of it, and what was lent. Assumes nothing.
use Prim.Native.Nat.{ℕ}
use mathlib.Core.List.{List}
use mathlib.Core.Path.{◌≡◌, sym, ap, ◌∙◌}
use lib.IntN.{ℤ}
use Rattle.ec20.specs.Answers.{Told, told_by_map, told_by_check, told_by_move, told_by_exchange}
use Rattle.ec20.specs.Devices.{ec20}
use Rattle.ec20.specs.Exchange.{Exchange}
use Rattle.ec20.specs.Move.{Move, move}
use Rattle.ec20.specs.Exchanged.{Exchanged}
use Rattle.ec20.specs.Mapped.{Mapped}
use Rattle.ec20.specs.Moved.{Moved}
use Rattle.ec20.specs.Verdict.{Verdict}
use Rattle.jobs.specs.Job.{Job, job, ToldJob, told_by_job}
use Rattle.jobs.specs.Jobbed.{Jobbed}
use Rattle.modbus.specs.Answer.{Answer, told_by_answer}
use Rattle.modbus.specs.Answered.{Answered}
use Rattle.torn.specs.Salvage.{Salvage, saved, ToldSalvage, told_by_salvage}
use Rattle.torn.specs.Salvaged.{Salvaged}

-- two names of one verdict tell the same four numbers
pub tells : {r u v : Verdict} → r ≡ v → r ≡ u
    → ((told_by_check u).number ≡ (told_by_check v).number) × (((told_by_check u).at ≡ (told_by_check v).at)
    × (((told_by_check u).records ≡ (told_by_check v).records) × ((told_by_check u).steps ≡ (told_by_check v).steps)))
tells {u = u} {v = v} e f = let p : told_by_check u ≡ told_by_check v = ap told_by_check (sym f ∙ e) in (ap (λ t. t.number) p, (ap (λ t. t.at) p, (ap (λ t. t.records) p, ap (λ t. t.steps) p)))

-- the four parts that are told of a map
pub mapped : {r u v : Mapped} → r ≡ v → r ≡ u
    → ((told_by_map ec20 u).number ≡ (told_by_map ec20 v).number) × (((told_by_map ec20 u).at ≡ (told_by_map ec20 v).at)
    × (((told_by_map ec20 u).read ≡ (told_by_map ec20 v).read) × ((told_by_map ec20 u).written ≡ (told_by_map ec20 v).written)))
mapped {u = u} {v = v} e f =
    let p : told_by_map ec20 u ≡ told_by_map ec20 v = ap (told_by_map ec20) (sym f ∙ e) in
    (ap (λ t. t.number) p, (ap (λ t. t.at) p, (ap (λ t. t.read) p, ap (λ t. t.written) p)))

-- the file after a move, and its three numbers
pub moved : {r u : Moved} {f : List ℕ} {s : Move} → move r f ≡ s → r ≡ u
    → (f ≡ s.file) × (((told_by_move u).number ≡ (told_by_move s.answer).number) × (((told_by_move u).at ≡ (told_by_move s.answer).at)
    × ((told_by_move u).place ≡ (told_by_move s.answer).place)))
moved {u = u} {s = s} e f =
    let p : told_by_move u ≡ told_by_move s.answer = ap told_by_move (sym f ∙ ap (λ (x : Move). x.answer) e) in
    (ap (λ (x : Move). x.file) e, (ap (λ t. t.number) p, (ap (λ t. t.at) p, ap (λ t. t.place) p)))

-- the table after an exchange, and its two numbers
pub exchanged : {r u : Exchanged} {d : List ℤ} {s : Exchange} → record { answer = r; words = d } ≡ s → r ≡ u
    → (d ≡ s.words) × (((told_by_exchange u).number ≡ (told_by_exchange s.answer).number) × ((told_by_exchange u).at ≡ (told_by_exchange s.answer).at))
exchanged {u = u} {s = s} e f =
    let p : told_by_exchange u ≡ told_by_exchange s.answer = ap told_by_exchange (sym f ∙ ap (λ (x : Exchange). x.answer) e) in
    (ap (λ (x : Exchange). x.words) e, (ap (λ t. t.number) p, ap (λ t. t.at) p))

-- the tables and the reply buffer after a request, and its three numbers
pub answered : {r u : Answered} {m : List ℕ} {d : List ℤ} {b : List ℕ} {s : Answer} → record { answer = r; m = m; d = d; reply = b } ≡ s → r ≡ u
    → (m ≡ s.m) × ((d ≡ s.d) × ((b ≡ s.reply) × (((told_by_answer u).number ≡ (told_by_answer s.answer).number)
    × (((told_by_answer u).kind ≡ (told_by_answer s.answer).kind) × ((told_by_answer u).length ≡ (told_by_answer s.answer).length)))))
answered {u = u} {s = s} e f =
    let p : told_by_answer u ≡ told_by_answer s.answer = ap told_by_answer (sym f ∙ ap (λ (x : Answer). x.answer) e) in
    (ap (λ (x : Answer). x.m) e, (ap (λ (x : Answer). x.d) e, (ap (λ (x : Answer). x.reply) e, (ap (λ t. t.number) p, (ap (λ t. t.kind) p, ap (λ t. t.length) p)))))

-- the file and the table after a job, and its four numbers, as they were told of its answer
pub jobbed : {r : Jobbed} {f : List ℕ} {d : List ℤ} {s : Job} {n k i j : ℕ} → job r f d ≡ s
    → (n ≡ (told_by_job r).number) × ((k ≡ (told_by_job r).at) × ((i ≡ (told_by_job r).line) × (j ≡ (told_by_job r).other)))
    → (f ≡ s.file) × ((d ≡ s.words) × ((n ≡ (told_by_job s.answer).number) × ((k ≡ (told_by_job s.answer).at)
    × ((i ≡ (told_by_job s.answer).line) × (j ≡ (told_by_job s.answer).other)))))
jobbed {r = r} {s = s} e h =
    let p : told_by_job r ≡ told_by_job s.answer = ap (λ (x : Job). told_by_job x.answer) e in
    let of : (l : ToldJob → ℕ) → l (told_by_job r) ≡ l (told_by_job s.answer) = λ l. ap l p in
    (ap (λ (x : Job). x.file) e, (ap (λ (x : Job). x.words) e, (h.0 ∙ of (λ t. t.number), (h.1.0 ∙ of (λ t. t.at), (h.1.1.0 ∙ of (λ t. t.line), h.1.1.1 ∙ of (λ t. t.other))))))

-- the output after a salvage, and its five numbers
pub salvaged : {r u : Salvaged} {b : List ℕ} {s : Salvage} → saved r b ≡ s → r ≡ u
    → (b ≡ s.out) × (((told_by_salvage u).number ≡ (told_by_salvage s.answer).number) × (((told_by_salvage u).at ≡ (told_by_salvage s.answer).at)
    × (((told_by_salvage u).kept ≡ (told_by_salvage s.answer).kept) × (((told_by_salvage u).added ≡ (told_by_salvage s.answer).added) × ((told_by_salvage u).rest ≡ (told_by_salvage s.answer).rest)))))
salvaged {u = u} {s = s} e f =
    let p : told_by_salvage u ≡ told_by_salvage s.answer = ap told_by_salvage (sym f ∙ ap (λ (x : Salvage). x.answer) e) in
    let of : (l : ToldSalvage → ℕ) → l (told_by_salvage u) ≡ l (told_by_salvage s.answer) = λ l. ap l p in
    (ap (λ (x : Salvage). x.out) e, (of (λ t. t.number), (of (λ t. t.at), (of (λ t. t.kept), (of (λ t. t.added), of (λ t. t.rest))))))
