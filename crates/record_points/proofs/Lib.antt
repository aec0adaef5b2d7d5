-- What the proofs of several functions use: the array of a list of points, and the values that points give.
mod Lists
mod Values
