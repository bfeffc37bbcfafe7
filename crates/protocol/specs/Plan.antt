-- Which plans are accepted, and where a plan puts an address.
use Rattle.std.specs.Prelude.{ℕ, ◌*◌, ◌/◌, ◌^◌, Bool, not, ◌&&◌, List, take, ◌==◌, nat_le, nat_lt, slice_index_or}
use Rattle.std.specs.List.{list_all}
use Rattle.std.specs.List.{range_with_len}
use Rattle.protocol.specs.declared.plan.Plan.{Plan}
use Rattle.protocol.specs.declared.plan.Home.{Home}

-- a region has 64 addresses
abbrev pub size : Plan → ℕ
size p = 64 * p.regions

-- the homes that count
abbrev pub homes_of : Plan → List Home
homes_of p = take p.regions p.homes

-- the machines of the region of an address
abbrev pub home_of : Plan → ℕ → Home
home_of p a = slice_index_or p.homes (a / 64) (record { primary = 0; first = 0; second = 0 })

abbrev pub machine_list : Plan → List ℕ
machine_list p = range_with_len 0 p.machines

abbrev pub is_within : ℕ → ℕ → ℕ → Bool
is_within low high n = nat_le low n && nat_le n high

-- three different machines of those there are
abbrev pub is_fine_home : ℕ → Home → Bool
is_fine_home m h =
    nat_lt h.primary m && nat_lt h.first m && nat_lt h.second m
    && not (h.primary == h.first) && not (h.primary == h.second) && not (h.first == h.second)

-- 3 to 5 machines, 1 to 4 coordinators, 1 to 8 regions, logs of 4 to 16 records, and a start version below 2^60
abbrev pub has_fine_sizes : Plan → Bool
has_fine_sizes p =
    is_within 3 5 p.machines && is_within 1 4 p.coordinators && is_within 1 8 p.regions && is_within 4 16 p.capacity && nat_lt p.start (2 ^ 60)

unfoldable pub is_fine : Plan → Bool
is_fine p = has_fine_sizes p && list_all (is_fine_home p.machines) (homes_of p)
