-- The cookie in force (Erlang manual, `erlang:set_cookie`) and who may connect (Kernel manual,
-- `net_kernel:allow/1`).
use Rattle.std.specs.Prelude.{ℕ, Bool, cond, ◌||◌, List, [], ◌∷◌, Option, Some, None, length}
use Rattle.std.specs.List.{flat_map}
use Rattle.std.specs.Option.{unwrap_or}
use Rattle.dist_types.specs.Order.{text_cmp}
use Rattle.dist_types.specs.Listing.{same, is_among, ascending}
use Rattle.dist_types.specs.Difference.{is_empty}
use Rattle.policy_audit.specs.declared.event.Event.{Event}
use Rattle.policy_audit.specs.declared.event.Event.TheVariants as event
use Rattle.policy_audit.specs.History.{History, events, first_of}

-- the cookie that an event sets for the own name
abbrev pub own_cookie_set : List ℕ → Event → Option (List ℕ)
own_cookie_set own (event.SetCookie cookie) = Some cookie
own_cookie_set own (event.SetCookieFor name cookie) = cond (same name own) (Some cookie) None
own_cookie_set own e = None

-- the cookie that an event sets for this name alone
abbrev pub cookie_set_for : List ℕ → Event → Option (List ℕ)
cookie_set_for name (event.SetCookieFor other cookie) = cond (same other name) (Some cookie) None
cookie_set_for name e = None

-- the own cookie: that of the last SetCookie or SetCookieFor the own name, else the opening's
abbrev pub own_cookie : History → List ℕ
own_cookie h = unwrap_or (first_of (own_cookie_set h.opening.name) (events h.entries))
    h.opening.cookie

-- the cookie for a name: that of the last SetCookieFor it, else the own cookie
abbrev pub cookie : History → List ℕ → List ℕ
cookie h name = cond (same name h.opening.name) (own_cookie h)
    (unwrap_or (first_of (cookie_set_for name) (events h.entries)) (own_cookie h))

-- the peers that an event gives a cookie of their own; the own name is none
abbrev pub cookie_peer : List ℕ → Event → List (List ℕ)
cookie_peer own (event.SetCookieFor name cookie) = cond (same name own) [] (name ∷ [])
cookie_peer own e = []

-- the peers with a cookie of their own, a peer as often as it was given one
abbrev pub cookie_peers : History → List (List ℕ)
cookie_peers h = flat_map (cookie_peer h.opening.name) (events h.entries)

-- the names that an event allows
abbrev pub names_allowed : Event → List (List ℕ)
names_allowed (event.Allow names) = names
names_allowed e = []

-- every name that an accepted Allow names
abbrev pub allow_list : History → List (List ℕ)
allow_list h = flat_map names_allowed (events h.entries)

-- nobody is named, or this name is
abbrev pub allowed : History → List ℕ → Bool
allowed h name = is_empty (allow_list h) || is_among name (allow_list h)

-- how many different names these are
abbrev pub different : List (List ℕ) → ℕ
different names = length (ascending text_cmp names)
