-- entries
pub mod Words
pub mod Entered
pub mod Calm
pub mod Anew
pub mod StepAnswers
pub mod Answering
pub mod HandedOut
-- lists and places
pub mod Zipped
pub mod Found
pub mod Searched
-- links
pub mod KeptOn
pub mod LinkTests
pub mod ReadLinks
pub mod MovedOn
pub mod Told
pub mod Openings
pub mod Losing
pub mod SlowLinks
pub mod Taking
-- the handshake
pub mod FrameRules
pub mod OneDial
pub mod EarlyMoves
pub mod HeardFrames
pub mod HeldLink
pub mod EarlyFrame
pub mod CameUp
pub mod LastHeard
-- messages
pub mod MessagePlaces
pub mod PeerRows
pub mod MessageKept
pub mod MessageRefused
pub mod MessageScopes
pub mod MessageParts
pub mod MessageRoom
pub mod MessageSlow
-- scopes
pub mod Scopes
pub mod OneScope
pub mod ScopesCutOff
pub mod Partings
pub mod MergedGroups
pub mod AllLost
pub mod Starting
pub mod Stopping
-- links that end with an event
pub mod Ends
pub mod EndsLost
pub mod LostChanges
pub mod PeersKept
pub mod Ending
-- own rows
pub mod Lives
pub mod RowsGone
pub mod OwnLimits
pub mod Said
pub mod Moved
pub mod Joining
pub mod Exited
-- admission
pub mod Once
pub mod Cookies
pub mod Ended
pub mod OwnChanges
