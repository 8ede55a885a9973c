-- The demands of document 01, "The windows". Definitions only.
use Rattle.std.specs.Prelude.{ℕ, ◌+◌, ◌-◌, min, cond, List}
use Rattle.base.specs.Sums.{sum_of}
use Rattle.base.specs.Numbers.{jobs_in, cut_in}
use Rattle.block.specs.declared.Task.{Task}
use Rattle.block.specs.declared.Kind.{Kind}
use Rattle.block.specs.declared.Kind.TheVariants.{Completed, Aborted, New}
use Rattle.window.specs.Order.{kind_of, above}

-- a sum over those tasks of a list that are above i
unfoldable pub sum_above : Task → (Task → ℕ) → List Task → ℕ
sum_above i f xs = sum_of (λ x. cond (above i x) (f x) 0) xs

-- ceil(t/T) × C, and floor(m/T) × C + min(C, m mod T)
abbrev pub jobs : Task → ℕ → ℕ
jobs x t = jobs_in x.period x.execution t

abbrev pub cut : Task → ℕ → ℕ
cut x m = cut_in x.period x.execution m

-- what i itself asks for in each of its windows: C
abbrev pub own_time : Task → ℕ
own_time i = i.execution

-- steady, within i's own mode
unfoldable pub steady_demand : List Task → Task → ℕ → ℕ
steady_demand own i t = own_time i + sum_above i (λ k. jobs k t) own

-- what an old task adds in m ticks before the request
abbrev pub old_term : Kind → Task → ℕ → ℕ
old_term Completed k m = jobs k m
old_term Aborted k m = cut k m
old_term New k m = 0

-- a completed old task i at phase x, the request coming x ticks after the window starts
unfoldable pub phase_demand : List Task → List Task → Task → ℕ → ℕ → ℕ
phase_demand olds news i x t =
    own_time i + sum_above i (λ k. old_term (kind_of k) k (min t x)) olds + sum_above i (λ k. jobs k (t - x - k.offset)) news

-- what an old task leaves at the request
abbrev pub left_term : Kind → Task → ℕ
left_term Completed k = k.execution
left_term Aborted k = 0
left_term New k = 0

-- a new task i, from the request
unfoldable pub request_demand : List Task → List Task → Task → ℕ → ℕ
request_demand olds news i t =
    own_time i + sum_above i (λ k. left_term (kind_of k) k) olds + sum_above i (λ k. jobs k (t - k.offset)) news
