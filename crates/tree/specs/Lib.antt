-- The theory of the index, in the order in which its parts rest on one another. Rules are what a reader must believe: `Sound`, the rules of lookup, insertion
-- and match, or the claim about lists of calls cite them. Steps are definitions that only laws cite: a reader need not believe them. Laws are proved.

-- Rules: the size of a page and the link to no page
pub mod Constants
-- Rules: joined lists, lists that are not empty, occurrences, half of a count
pub mod Lists
-- Rules: a total order as one test with three laws
pub mod Order
-- Rules: lists of pairs: lookup, insertion, removal, ascending keys
pub mod Pairs
-- Rules: the entry of a page that an insertion goes through, by its number
pub mod Position
-- Rules: trees of pages by height; their leaf pairs, pages and levels; lookup and the pages it visits
pub mod Tree
-- Rules: what an index keeps its leaf pairs by: their orders, and the route of a new pair; what features 0 and 1 mean
pub mod Keeping
-- Rules: document 01's clauses of a sound index on trees: counts, greatest keys, links
pub mod Clauses
-- Rules: stores of pages, read as trees
pub mod Store
-- Rules: the book of demand 3, and the claim about a whole list of calls
pub mod Book
-- Steps: insertion into a tree
pub mod Insertion
-- Steps: the leaf that an insertion goes to, and the new pages and levels that it means
pub mod Room
-- Rules: lookup of a key's first record if keys repeat, and lookup by the keeping
pub mod LookupFirst
-- Steps: new pages from the free list, then at the file's end; how emptied pages join the free list
pub mod FreeList
-- Steps: removal from a tree, and the pages emptied by it
pub mod Removal
-- Steps: links after an insertion
pub mod Relinking
-- Steps: links after a removal
pub mod Unlinking
-- Rules: the free list as it lies in a file
pub mod FreeChain
-- Steps: the supply of new pages
pub mod Supply
-- Steps: an index as a tree with a free list and a file size, the rule for refusal 30, the calls
pub mod Index
