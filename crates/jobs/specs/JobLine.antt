-- A line of a job's text: not spelt as it must be; or the start and the length of its block, where its place begins, and the place after its line feed.
use Rattle.std.specs.Prelude.{ℕ, Option, Some, None}
use Rattle.jobs.specs.declared.JobLine.{JobLine as SpeltLine}

abbrev pub JobLine : Type 0
JobLine = Option SpeltLine

pattern abbrev pub Misspelt : JobLine
Misspelt = None

abbrev pub Spelt : ℕ → ℕ → ℕ → ℕ → JobLine
Spelt a n q e = Some (record { start = a; length = n; place = q; next = e })
