-- What a word instruction's calls give, put together.
mod Laws
